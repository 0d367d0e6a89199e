use Rattle.std.proofs.Common.{codes, ◌++◌}
use Rattle.gd_base.proofs.Waits.{pends-front, pends-after}
use Rattle.gd_dump.specs.Ascii.{file_line, format_text}
use Rattle.gd_dump.proofs.ascii_writer.AsciiWriter.put_head.Goals as goal

pub returns-in_err-put-clause-bytes : goal.returns-in_err-put-clause-bytes
returns-in_err-put-clause-bytes g c =
    let first = codes "# GDBM dump file created by gdbm_dump\n#:version=1.1\n" in
    let rest = file_line c.args.file.now ++ format_text c.args.format in
    pends-front _ c.from_residual.result _ _ _ _ first rest c.from_residual.ensures.1 c.in_err-put.ensures.bytes

pub returns-in_err-put_file_line-clause-bytes : goal.returns-in_err-put_file_line-clause-bytes
returns-in_err-put_file_line-clause-bytes g c =
    let first = codes "# GDBM dump file created by gdbm_dump\n#:version=1.1\n" in
    let line = file_line c.args.file.now in
    let r = c.from_residual-in_err-put_file_line.result in
    pends-after r _ _ _ _ _ _ first (line ++ format_text c.args.format) c.in_ok-put.ensures.bytes
    (pends-front _ r _ _ _ _ line (format_text c.args.format) c.from_residual-in_err-put_file_line.ensures.1 c.in_err-put_file_line.ensures.bytes)

pub returns-clause-bytes : goal.returns-clause-bytes
returns-clause-bytes g c =
    let first = codes "# GDBM dump file created by gdbm_dump\n#:version=1.1\n" in
    let line = file_line c.args.file.now in
    let r = c.put_format.result in
    pends-after r _ _ _ _ _ _ first (line ++ format_text c.args.format) c.in_ok-put.ensures.bytes
    (pends-after r _ _ _ _ _ _ line (format_text c.args.format) c.in_ok-put_file_line.ensures.bytes c.put_format.ensures.bytes)
