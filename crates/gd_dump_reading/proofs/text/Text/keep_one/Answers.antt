use Rattle.std.proofs.Common.{◌≡◌, ◌∙◌, ap, sym, refl, rules, ◌+◌, ◌++◌, ◌∷◌, [], ℕ, List, arith}
use Rattle.std.proofs.lemmas.List.{append_assoc}
use Rattle.gd_dump_reading.specs.Base64.{base64_text}
use Rattle.gd_dump_reading.proofs.TextParts.{takes-good}
use Rattle.gd_dump_reading.proofs.text.Text.keep_one.Goals as goal

pub returns-clause-takes : goal.returns-clause-takes
returns-clause-takes c =
    let now = c.args.self.now in
    let before = base64_text now.bytes.items ++ now.quad.items in
    let quad : c.push.new.self.items ≡ now.quad.items ++ c.args.char ∷ [] = search rules in
    let text : base64_text now.bytes.items ++ c.push.new.self.items ≡ before ++ c.args.char ∷ [] =
    ap (λ (t : List ℕ). base64_text now.bytes.items ++ t) quad ∙ sym (append_assoc (base64_text now.bytes.items) now.quad.items (c.args.char ∷ [])) in
    record {
      size = refl;
      place = refl;
      len = refl;
      left = λ more follows end. takes-good now.bad now.bad now.size now.at now.len (now.len + 1) before _ (c.args.char ∷ []) more follows end c.requires.good c.requires.good text;
    }
