use Rattle.std.proofs.Common.{◌≡◌, ◌∙◌, ap, sym, refl, rules, ◌+◌, ◌++◌, ◌∷◌, [], true, false, ℕ, List, length, arith}
use Rattle.gd_dump_reading.proofs.TextParts.{takes-decoded, three-of}
use Rattle.gd_dump_reading.proofs.text.Text.end_group.Goals as goal

pub returns-clause-takes : goal.returns-clause-takes
returns-clause-takes c =
    let now = c.args.self.now in
    let quad : length now.quad.items ≡ 3 = search rules in
    let none : length c.clear.new.self.items ≡ 0 = search rules in
    record {
      size = refl;
      place = refl;
      len = refl;
      left = λ more follows end. takes-decoded now.bad c.decode.result now.size now.at now.len now.bytes.items c.decode.new.bytes.items now.quad.items c.clear.new.self.items (c.args.char ∷ []) _ more follows end
          c.requires.good (now.counted c.requires.good) none (three-of now.quad.items c.deref.result.now c.deref-2.result.now c.deref-3.result.now c.args.char quad c.deref.ensures.0 c.deref-2.ensures.0 c.deref-3.ensures.0) (λ is. c.decode.ensures.good is) (λ is. c.decode.ensures.bad is more);
    }
