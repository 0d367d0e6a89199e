use Rattle.gd_types.proofs.Making.{sound-push}
use Rattle.gd_types.proofs.definition.Definition.push.Goals as goal

pub invariant_of-self : goal.invariant_of-self
invariant_of-self c =
    sound-push c.self.inside.members.items c.push.new.self.items c.self.inside.braces c.args.self.now c.args.member c.self.inside.reached c.place_after-self-inside.result
    c.self.inside.ended c.is_text-self-inside.result c.self.invariant c.self.view_is c.requires c.in-Ok.ensures.items c.place_after-self-inside.ensures c.is_text-self-inside.ensures
