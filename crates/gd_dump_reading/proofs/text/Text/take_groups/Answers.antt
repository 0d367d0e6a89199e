use Rattle.std.proofs.Common.{◌≡◌, ◌∙◌, ap, sym, refl, rules, ◌+◌, ◌++◌, ◌∷◌, [], true, false, ℕ, List, length, arith}
use Rattle.std.specs.Prelude.{not, vec_len}
use Rattle.gd_dump_reading.specs.Base64.{base64_text}
use Rattle.gd_dump_reading.proofs.TextParts.{no-front, takes-decoded}
use Rattle.gd_dump_reading.proofs.text.Text.take_groups.Goals as goal

pub returns-clause-takes : goal.returns-clause-takes
returns-clause-takes c =
    let now = c.args.self.now in
    let chars = c.args.chars.now in
    let quad : length now.quad.items ≡ 0 = search rules in
    record {
      size = refl;
      place = refl;
      len = refl;
      left = λ more follows end. takes-decoded now.bad c.decode.result now.size now.at now.len now.bytes.items c.decode.new.bytes.items now.quad.items now.quad.items chars chars more follows end
          c.requires.good (now.counted c.requires.good) quad (no-front now.quad.items chars quad) (λ is. c.decode.ensures.good is) (λ is. c.decode.ensures.bad is more);
    }
