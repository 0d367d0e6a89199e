use Rattle.std.proofs.Common.{◌≡◌, ◌∙◌, ◌==◌, sym, false}
use Rattle.std.specs.List.{list_any}
use Rattle.gd_types.proofs.Appending.{appends-zero}
use Rattle.gd_types.proofs.encoding.append_zero_ended.Goals as goal

pub returns : goal.returns
returns c =
    let none : list_any (λ b. b == 0) c.args.word.now ≡ false = sym c.has_zero.ensures ∙ c.if-has_zero.false in
    appends-zero c.append_text-2.result c.args.out.now.items c.append_text.new.out.items c.append_text-2.new.out.items c.args.word.now none c.in_ok-append_text.ensures c.append_text-2.ensures
