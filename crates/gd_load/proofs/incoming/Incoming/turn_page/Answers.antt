use Rattle.std.proofs.Common.{◌≤◌, ◌∙◌, ap, ◌++◌, ℕ, List, rules}
use Rattle.std.specs.Prelude.{option_map}
use Rattle.gd_load.proofs.Pages.{taken-front}
use Rattle.gd_load.proofs.incoming.Incoming.turn_page.Goals as goal

pub returns-in-Ok-clause-front : goal.returns-in-Ok-clause-front
returns-in-Ok-clause-front g c =
    let page = c.read_front.new.page in
    let room = c.min-room.result in
    let count = c.in-Ok.count in
    let within : count ≤ room = search rules in
    c.in-Ok.ensures.bytes.1 ∙ ap (λ (t : List ℕ). option_map (λ (xs : List ℕ). t ++ xs) (g.S.Source.left c.read_front.new.input)) (taken-front count room page within)
