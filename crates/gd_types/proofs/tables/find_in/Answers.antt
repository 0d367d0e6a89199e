use Rattle.gd_types.proofs.Finding.{found-another, found-first, found-none}
use Rattle.gd_types.proofs.tables.find_in.Goals as goal
use Rattle.gd_types.proofs.tables.find_in.Goals.{then-starts_with+in-Missing, else-starts_with}

pub returns-in_default : goal.returns-in_default
returns-in_default c =
    found-another c.args.names.now c.loop-row.row _ c.args.word.now c.as_bytes.result.now c.starts_with.result c.loop-row.found c.loop-row-test.true
    c.as_bytes.ensures.value c.starts_with.ensures.value c.loop-row.invariant c.if-starts_with.true c.in_default.not-Missing

pub loop-row-preserved : goal.loop-row-preserved
loop-row-preserved c = elim c.if-starts_with.branch [
  | then-starts_with+in-Missing w ↦
      found-first c.args.names.now c.loop-row.row _ c.args.word.now c.as_bytes.result.now c.starts_with.result c.loop-row.found c.loop-row-test.true
      c.as_bytes.ensures.value c.starts_with.ensures.value c.loop-row.invariant c.if-starts_with.found w.if-starts_with.true w.in-Missing.is w.found-is
  | else-starts_with w ↦
      found-none c.args.names.now c.loop-row.row _ c.args.word.now c.as_bytes.result.now c.starts_with.result c.loop-row.found c.loop-row-test.true
      c.as_bytes.ensures.value c.starts_with.ensures.value c.loop-row.invariant c.if-starts_with.found w.if-starts_with.false w.found-is
]
