use Rattle.std.proofs.Common.{refl}
use Rattle.gd_top.proofs.run.Goals as goal

pub returns-in-Dump-clause-runs : goal.returns-in-Dump-clause-runs
returns-in-Dump-clause-runs g c = rw c.in-Dump.is record {
  usage = c.dump_by_words.ensures.usage;
  ends = c.dump_by_words.ensures.ends;
  quiet = c.dump_by_words.ensures.quiet;
  asks = c.dump_by_words.ensures.asks;
  left = refl;
  input_faults = refl;
  told = refl;
  clock_faults = refl;
  turns_none = c.new.ensures;
}

pub returns-in-Load-clause-runs : goal.returns-in-Load-clause-runs
returns-in-Load-clause-runs g c = rw c.in-Load.is record {
  usage = c.load_run.ensures.usage;
  runs = c.load_run.ensures.runs;
  quiet = c.load_run.ensures.quiet;
  written = refl;
  out_faults = refl;
  told = refl;
  clock_faults = refl;
  turns_none = c.new-in-Load.ensures;
}
