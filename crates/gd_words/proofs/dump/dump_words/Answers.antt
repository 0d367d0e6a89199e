use Rattle.std.proofs.Common.{◌∙◌, ◌∷◌, ap, codes, map, string_bytes}
use Rattle.gd_words.specs.Commands.{dump_app}
use Rattle.gd_words.specs.Meaning.{dump_options}
use Rattle.gd_words.specs.Reads.{texts}
use Rattle.gd_words.proofs.Facts.{dump_taken, refused_by}
use Rattle.gd_words.proofs.dump.dump_words.Goals as goal

pub returns-in-Ok-parse : goal.returns-in-Ok-parse
returns-in-Ok-parse c =
    dump_taken c.in-Ok-parse.matches _ (map string_bytes c.args.words.now) _ c.options.result c.in-Ok-command.ensures
    (ap texts c.deref.ensures.value ∙ c.in-Ok.ensures) c.in-Ok-parse.ensures c.options.ensures

pub returns : goal.returns
returns c =
    refused_by c.in-Err.refusal _ dump_app dump_options (codes "gdbm_dump" ∷ map string_bytes c.args.words.now) _ c.in-Ok-command.ensures
    (ap texts c.deref.ensures.value ∙ c.in-Ok.ensures) c.in-Err.ensures
