use Rattle.std.proofs.Common.{◌∙◌, ◌∷◌, ap, codes, map, string_bytes}
use Rattle.gd_words.specs.Commands.{load_app}
use Rattle.gd_words.specs.Meaning.{load_options}
use Rattle.gd_words.specs.Reads.{texts}
use Rattle.gd_words.proofs.Facts.{load_taken, refused_by}
use Rattle.gd_words.proofs.load.load_words.Goals as goal

pub returns-in-Ok-parse-clause-reads : goal.returns-in-Ok-parse-clause-reads
returns-in-Ok-parse-clause-reads c =
    load_taken c.in-Ok-parse.matches _ (map string_bytes c.args.words.now) _ c.options.result c.in-Ok-command.ensures
    (ap texts c.deref.ensures.value ∙ c.in-Ok.ensures) c.in-Ok-parse.ensures c.options.ensures.reads

pub returns-clause-reads : goal.returns-clause-reads
returns-clause-reads c =
    refused_by c.in-Err.refusal _ load_app load_options (codes "gdbm_load" ∷ map string_bytes c.args.words.now) _ c.in-Ok-command.ensures
    (ap texts c.deref.ensures.value ∙ c.in-Ok.ensures) c.in-Err.ensures
