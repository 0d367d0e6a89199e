-- An ASCII dump is read as its pairs.
use Rattle.std.proofs.Common.{◌≡◌, ◌≢◌, ◌∙◌, ap, ap₂, sym, refl, subst, ℕ, ◌+◌, ◌-◌, ◌^◌, ◌<◌, ◌≤◌, Bool, true, false, ◌&&◌, List, [], ◌∷◌, ◌++◌, length, drop, arith, cond, eqb, Option, Some, None, Ok, Err, take}
use Rattle.std.specs.Prelude.{◌==◌, codes, not}
use Rattle.std.specs.Char.{is_ascii_digit}
use Rattle.std.specs.Fmt.{decimal}
use Rattle.std.specs.List.{list_all, prefix_len, starts_with, suffix_len}
use Rattle.std.proofs.lemmas.Bool.{cond-true, cond-false, eq-eqb, ne_eqb}
use Rattle.std.proofs.lemmas.Fmt.{length-decimal-le}
use Rattle.std.proofs.lemmas.List.{append_assoc, drop_all, length-drop, take_all}
use Rattle.base64.specs.GeneralPurpose.{IsBytes}
use Rattle.gd_base.specs.declared.errors.Format.{Format}
use Rattle.gd_base.specs.declared.errors.Format.TheVariants.{Standard, Numsync}
use Rattle.gd_dump.specs.Ascii.{base64_text, datum_text, end_text, file_part, format_text, is_plain, is_shown, lines_of, pair_text, pairs_text}
use Rattle.gd_dump_reading.specs.Params.{if_params, no_names, params_in, plain, quoted, some_params, value_in, with_line, with_value}
use Rattle.gd_dump_reading.specs.Lines.{is_overlong}
use Rattle.gd_dump_reading.specs.declared.items.DumpKind.TheVariants.{Parameter}
use Rattle.gd_dump_reading.specs.Params.{Named}
use Rattle.gd_dump_reading.proofs.LineCuts.{short-line}
use Rattle.gd_dump_reading.specs.AsciiItems.{Line, Section, and_named, before, data_told, datum_in, from_start, joined, key_size, lines_in, named_told, parted, section_step, size_of, sizes, text_size, with_datum}
use Rattle.gd_dump.specs.RoundTrip.{ArePairs, ArePairsOfBytes, AsciiRoundTrip, FitPairs, ReadsAs, ascii_head}
use Rattle.gd_dump_reading.specs.Told.{Told, given, pairs_of}
use Rattle.gd_dump_reading.specs.declared.items.Item.TheVariants.{Head, Pair}
use Rattle.gd_dump.proofs.Chunks.{and-left, and-right, chunked, joined-chunked, lines-chunked, parted-chunked}
use Rattle.gd_dump_reading.proofs.Datums.{datum-whole}
use Rattle.gd_dump_reading.proofs.DataLines.{len-fine, count-fine}
use Rattle.gd_dump_reading.proofs.Encodes.{strict-of}
use Rattle.gd_dump.proofs.Encoded.{both, clean-text, digits, number-decimal}
use Rattle.gd_dump.proofs.Lines.{length-text}

-- ---- a line with its line feed

-- decimal digits, and then a line feed
lines-digits : (ds rest : List ℕ) → list_all is_ascii_digit ds ≡ true → lines_in (ds ++ 10 ∷ rest) ≡ (record { text = ds; ended = true }) ∷ lines_in rest
lines-digits [] rest e = refl
lines-digits (d ∷ ds) rest e =
    cond-false (d == 10) _ _ (ne_eqb d 10 (λ is. absurd (not-digit d is (and-left _ (list_all is_ascii_digit ds) e))))
    ∙ ap (before d) (lines-digits ds rest (and-right (is_ascii_digit d) _ e))
  where
    not-digit : (d : ℕ) → d ≡ 10 → is_ascii_digit d ≡ true → ⊥
    not-digit d is e = absurd (cc (ap is_ascii_digit is))

-- ---- a datum

datum_section : List ℕ → Section
datum_section bytes = record { line = record { text = codes "#:len=" ++ decimal (length bytes); ended = true }; body = chunked (base64_text bytes) }

datum-parted : (bytes rest : List ℕ) (ss : List Section) → length bytes < 2 ^ 64 → parted (lines_in rest) ≡ ([], ss) → parted (lines_in (datum_text bytes ++ rest)) ≡ ([], datum_section bytes ∷ ss)
unfolding datum_section
datum-parted bytes rest ss small next =
    let n = decimal (length bytes) in
    let text = lines_of (base64_text bytes) in
    let tail = lines-digits n (text ++ rest) (digits (length bytes) small).0 in
    ap (λ (t : List ℕ). parted (lines_in (codes "#:len=" ++ t))) (append_assoc n (10 ∷ text) rest)
    ∙ ap (λ (ls : List Line). parted (before 35 (before 58 (before 108 (before 101 (before 110 (before 61 ls))))))) tail
    ∙ ap (section_step (record { text = codes "#:len=" ++ n; ended = true }))
    (ap parted (lines-chunked (base64_text bytes) rest (clean-text bytes)) ∙ parted-chunked (base64_text bytes) (lines_in rest) ss (clean-text bytes) next)

-- ---- a datum that is followed

text-length : (bytes : List ℕ) → length (base64_text bytes) ≡ text_size (length bytes)
text-length bytes = omega (arith, length-text bytes)

digits-fit : (n : ℕ) → n ≤ 2 ^ 30 → length (decimal n) ≤ 10
digits-fit n small = length-decimal-le 10 n (omega arith) (omega (arith, small)) (omega (arith, small))

datum-given : (bytes : List ℕ) (at end : ℕ) → IsBytes bytes → datum_in (length bytes) at (joined (chunked (base64_text bytes))) true end ≡ Ok bytes
datum-given bytes at end is =
    ap (λ (t : List ℕ). datum_in (length bytes) at t true end) (joined-chunked (base64_text bytes))
    ∙ datum-whole (length bytes) at end (base64_text bytes) bytes (text-length bytes) (strict-of bytes is) refl

-- where it ends
datum_end : ℕ → List ℕ → ℕ
datum_end place bytes = place + size_of (record { text = codes "#:len=" ++ decimal (length bytes); ended = true }) + sizes (chunked (base64_text bytes))

datum-told : (count : ℕ) (key : Option (List ℕ)) (place : ℕ) (bytes : List ℕ) (s : Section) (ss : List Section) → key_size key + length bytes ≤ 2 ^ 30 → IsBytes bytes
    → data_told count key place (datum_section bytes ∷ s ∷ ss)
    ≡ with_datum count key (datum_end place bytes) (Ok bytes) (λ c k. data_told c k (datum_end place bytes) (s ∷ ss))
unfolding datum_section datum_end
datum-told count key place bytes s ss fits is =
    let n = length bytes in
    let whole = digits n (omega (arith, fits)) in
    let end = datum_end place bytes in
    len-fine count key place (datum_section bytes) (s ∷ ss) refl (number-decimal 10 n (omega (arith, fits)) (digits-fit n (omega (arith, fits)))) (omega (arith, whole.1, fits))
    ∙ ap (λ m. with_datum count key end (datum_in m place (joined (chunked (base64_text bytes))) true end) (λ c k. data_told c k end (s ∷ ss))) whole.1
    ∙ ap (λ r. with_datum count key end r (λ c k. data_told c k end (s ∷ ss))) (datum-given bytes place end is)

-- ---- pairs, and the end

pair_sections : List (List ℕ × List ℕ) → List Section → List Section
pair_sections [] ss = ss
pair_sections (p ∷ ps) ss = datum_section p.0 ∷ datum_section p.1 ∷ pair_sections ps ss

end_sections : ℕ → List Section
end_sections n = (record { line = record { text = codes "#:count=" ++ decimal n; ended = true }; body = [] }) ∷ (record { line = record { text = codes "# End of data"; ended = true }; body = [] }) ∷ []

end-parted : (n : ℕ) → n < 2 ^ 64 → parted (lines_in (end_text n)) ≡ ([], end_sections n)
unfolding end_sections
end-parted n small =
    let ds = decimal n in
    let tail = lines-digits ds (codes "# End of data\n") (digits n small).0 in
    ap (λ (ls : List Line). parted (before 35 (before 58 (before 99 (before 111 (before 117 (before 110 (before 116 (before 61 ls))))))))) tail

small-sum : (p : List ℕ × List ℕ) → length p.0 + length p.1 ≤ 2 ^ 30 → (length p.0 < 2 ^ 64) × (length p.1 < 2 ^ 64)
small-sum p fits = (omega (arith, fits), omega (arith, fits))

pairs-parted : (ps : List (List ℕ × List ℕ)) (rest : List ℕ) (ss : List Section) → FitPairs ps → parted (lines_in rest) ≡ ([], ss) → parted (lines_in (pairs_text ps ++ rest)) ≡ ([], pair_sections ps ss)
unfolding pair_sections
pairs-parted [] rest ss fit next = next
pairs-parted (p ∷ ps) rest ss (fits, fit) next =
    let small = small-sum p fits in
    let others = pairs-parted ps rest ss fit next in
    let second = datum-parted p.1 (pairs_text ps ++ rest) (pair_sections ps ss) small.1 others in
    ap (λ (t : List ℕ). parted (lines_in t)) (append_assoc (pair_text p.0 p.1) (pairs_text ps) rest ∙ append_assoc (datum_text p.0) (datum_text p.1) (pairs_text ps ++ rest))
    ∙ datum-parted p.0 (datum_text p.1 ++ (pairs_text ps ++ rest)) (datum_section p.1 ∷ pair_sections ps ss) small.0 second

abbrev Reads : Told → List (List ℕ × List ℕ) → Type 0
Reads told ps = ArePairs told.items ps × (pairs_of told.items ≡ ps) × (told.refusal ≡ None)

some-sections : (ps : List (List ℕ × List ℕ)) (n : ℕ) → (s : Section) × (ss : List Section) × (pair_sections ps (end_sections n) ≡ s ∷ ss)
unfolding pair_sections end_sections
some-sections [] n = (_, _, refl)
some-sections (p ∷ ps) n = (_, _, refl)

count-told : (place n : ℕ) → n < 2 ^ 64 → Reads (data_told n None place (end_sections n)) []
unfolding end_sections
count-told place n small =
    let whole = digits n small in
    let fits : length (decimal n) ≤ 20 = length-decimal-le 20 n (omega arith) (omega (arith, small)) small in
    subst (λ (t : Told). Reads t [])
    (sym (count-fine n None place (record { line = record { text = codes "#:count=" ++ decimal n; ended = true }; body = [] }) ((record { line = record { text = codes "# End of data"; ended = true }; body = [] }) ∷ [])
    refl refl (both _ _ (number-decimal 20 n small fits) refl) (eq-eqb _ _ whole.1)))
    (tt, refl, refl)

pairs-told : (ps : List (List ℕ × List ℕ)) (count place total : ℕ) → FitPairs ps → ArePairsOfBytes ps → total ≡ count + length ps → total < 2 ^ 64
    → Reads (data_told count None place (pair_sections ps (end_sections total))) ps
unfolding pair_sections
pairs-told [] count place total fit are is small = subst (λ (n : ℕ). Reads (data_told n None place (end_sections total)) []) (omega (arith, is)) (count-told place total small)
pairs-told (p ∷ ps) count place total (fits, fit) (key, value, are) is small =
    let rest = pair_sections ps (end_sections total) in
    let shape = some-sections ps total in
    let s = shape.0 in
    let ss = shape.1 in
    let middle = datum_end place p.0 in
    let end = datum_end middle p.1 in
    let others = pairs-told ps (count + 1) end total fit are (omega (arith, is)) small in
    let read : data_told count None place (datum_section p.0 ∷ datum_section p.1 ∷ rest) ≡ given (Pair p.0 p.1) (end + 1) (data_told (count + 1) None end rest) =
    datum-told count None place p.0 (datum_section p.1) rest (omega (arith, fits)) key
    ∙ ap (λ (r : List Section). data_told count (Some p.0) middle (datum_section p.1 ∷ r)) shape.2
    ∙ datum-told count (Some p.0) middle p.1 s ss fits value
    ∙ ap (λ (r : List Section). given (Pair p.0 p.1) (end + 1) (data_told (count + 1) None end r)) (sym shape.2) in
    subst (λ (t : Told). Reads t (p ∷ ps)) (sym read) ((refl, refl, others.0), ap (λ (l : List (List ℕ × List ℕ)). (p.0, p.1) ∷ l) others.1, others.2)

-- ---- the head

-- plain characters are one value
plain-head : (b : ℕ) (n : ℕ) → is_plain n ≡ false → is_plain b ≡ true → b ≢ n
plain-head b n off on is = absurd (cc (ap is_plain is))

plain-length : (part : List ℕ) → list_all is_plain part ≡ true → prefix_len (λ b. not (b == 44)) part ≡ length part
plain-length [] e = refl
plain-length (b ∷ part) e =
    let plain_b = and-left (is_plain b) (list_all is_plain part) e in
    let passes : not (b == 44) ≡ true = ap not (ne_eqb b 44 (plain-head b 44 refl plain_b)) in
    cond-true (not (b == 44)) _ _ passes ∙ ap (λ n. 1 + n) (plain-length part (and-right (is_plain b) _ e)) ∙ omega arith

pub plain-value : (part : List ℕ) → list_all is_plain part ≡ true → value_in part ≡ Some (part, [])
plain-value [] e = refl
plain-value (b ∷ part) e =
    let whole = b ∷ part in
    let plain_b = and-left (is_plain b) (list_all is_plain part) e in
    let quote : starts_with eqb whole (codes "\"") ≡ false = ap (λ t. t && true) (ne_eqb 34 b (λ is. plain-head b 34 refl plain_b (sym is))) in
    let len = plain-length whole e in
    cond-false (starts_with eqb whole (codes "\"")) (quoted (drop 1 whole)) (Some (plain whole)) quote
    ∙ ap (λ n. Some (take n whole, drop n whole)) len
    ∙ ap₂ (λ (x y : List ℕ). Some (x, y)) (take_all (length whole) whole (omega arith)) (drop_all (length whole) whole (omega arith))

-- the line of the file's name
file-said : (part : List ℕ) → list_all is_plain part ≡ true → length part ≤ 4000 → with_line (record { version = true; format = None; file = None }) true (codes "#:file=" ++ part) ≡ Ok (record { version = true; format = None; file = Some part })
unfolding some_params
file-said part e small =
    let line = codes "#:file=" ++ part in
    let named : Named = record { version = true; format = None; file = None } in
    cond-false (is_overlong true line) (Err Parameter) (if_params named (params_in (drop 2 line))) (short-line true line (omega (arith, small)))
    ∙ ap (λ v. if_params named (with_value (codes "file") v (some_params (length (codes "ile=" ++ part))))) (plain-value part e)

lines-plain : (part rest : List ℕ) → list_all is_plain part ≡ true → lines_in (part ++ 10 ∷ rest) ≡ (record { text = part; ended = true }) ∷ lines_in rest
lines-plain [] rest e = refl
lines-plain (b ∷ part) rest e =
    cond-false (b == 10) _ _ (ne_eqb b 10 (plain-head b 10 refl (and-left _ (list_all is_plain part) e))) ∙ ap (before b) (lines-plain part rest (and-right (is_plain b) _ e))

line_section : List ℕ → Section
line_section text = record { line = record { text = text; ended = true }; body = [] }

format_sections : Format → List Section → List Section
format_sections Standard ss = line_section (codes "#:format=standard") ∷ line_section (codes "# End of header") ∷ ss
format_sections Numsync ss = line_section (codes "#:format=numsync") ∷ line_section (codes "# End of header") ∷ ss

format-parted : (format : Format) (rest : List ℕ) (ss : List Section) → parted (lines_in rest) ≡ ([], ss) → parted (lines_in (format_text format ++ rest)) ≡ ([], format_sections format ss)
unfolding line_section format_sections
format-parted Standard rest ss next =
    ap (λ (g : List Line × List Section). section_step (record { text = codes "#:format=standard"; ended = true }) (section_step (record { text = codes "# End of header"; ended = true }) g)) next
format-parted Numsync rest ss next =
    ap (λ (g : List Line × List Section). section_step (record { text = codes "#:format=numsync"; ended = true }) (section_step (record { text = codes "# End of header"; ended = true }) g)) next

abbrev said : Option (List ℕ) → Named
said file = record { version = true; format = None; file = file }

format-told : (format : Format) (file : Option (List ℕ)) (place : ℕ) (ss : List Section)
    → (end : ℕ) × (named_told (said file) place (format_sections format ss) ≡ given (Head (record { format = Some format; file = file })) end (data_told 0 None end ss))
unfolding line_section format_sections some_params
format-told Standard file place ss = (_, refl)
format-told Numsync file place ss = (_, refl)

start-told : (ss : List Section) → named_told no_names 0 (line_section (codes "# GDBM dump file created by gdbm_dump") ∷ line_section (codes "#:version=1.1") ∷ ss) ≡ named_told (said None) 52 ss
unfolding line_section some_params
start-told ss = refl

start-parted : (rest : List ℕ) (ss : List Section) → parted (lines_in rest) ≡ ([], ss)
    → parted (lines_in (codes "# GDBM dump file created by gdbm_dump\n#:version=1.1\n" ++ rest)) ≡ ([], line_section (codes "# GDBM dump file created by gdbm_dump") ∷ line_section (codes "#:version=1.1") ∷ ss)
unfolding line_section
start-parted rest ss next =
    ap (λ (g : List Line × List Section). section_step (record { text = codes "# GDBM dump file created by gdbm_dump"; ended = true }) (section_step (record { text = codes "#:version=1.1"; ended = true }) g)) next

file-parted : (part rest : List ℕ) (ss : List Section) → list_all is_plain part ≡ true → parted (lines_in rest) ≡ ([], ss) → parted (lines_in ((codes "#:file=" ++ (part ++ 10 ∷ [])) ++ rest)) ≡ ([], line_section (codes "#:file=" ++ part) ∷ ss)
unfolding line_section
file-parted part rest ss e next =
    ap (λ (t : List ℕ). parted (lines_in (codes "#:file=" ++ t))) (append_assoc part (10 ∷ []) rest)
    ∙ ap (λ (ls : List Line). parted (before 35 (before 58 (before 102 (before 105 (before 108 (before 101 (before 61 ls)))))))) (lines-plain part rest e)
    ∙ ap (section_step (record { text = codes "#:file=" ++ part; ended = true })) next

file-told : (part : List ℕ) (place : ℕ) (ss : List Section) → list_all is_plain part ≡ true → length part ≤ 4000
    → (next : ℕ) × (named_told (said None) place (line_section (codes "#:file=" ++ part) ∷ ss) ≡ named_told (said (Some part)) next ss)
unfolding line_section
file-told part place ss e small = (_, ap (λ r. and_named place r (λ h. named_told h (place + size_of (record { text = codes "#:file=" ++ part; ended = true })) ss)) (file-said part e small))

-- with the file's line or without it
abbrev file_text : Bool → List ℕ → List ℕ
file_text t part = cond t (codes "#:file=" ++ (part ++ 10 ∷ [])) []

abbrev file_shown : Bool → List ℕ → Option (List ℕ)
file_shown t part = cond t (Some part) None

head-read : (t : Bool) (part : List ℕ) (format : Format) (rest : List ℕ) (ss : List Section) → (t ≡ true → list_all is_plain part ≡ true) → length part ≤ 4000 → parted (lines_in rest) ≡ ([], ss)
    → (end : ℕ) × (from_start (parted (lines_in ((codes "# GDBM dump file created by gdbm_dump\n#:version=1.1\n" ++ (file_text t part ++ format_text format)) ++ rest)))
    ≡ given (Head (record { format = Some format; file = file_shown t part })) end (data_told 0 None end ss))
head-read true part format rest ss shown small next =
    let tail = format-parted format rest ss next in
    let e = shown refl in
    let named = file-told part 52 (format_sections format ss) e small in
    let told = format-told format (Some part) named.0 ss in (
      told.0,
      ap from_start
          (ap (λ (t : List ℕ). parted (lines_in (codes "# GDBM dump file created by gdbm_dump\n#:version=1.1\n" ++ t))) (append_assoc (codes "#:file=" ++ (part ++ 10 ∷ [])) (format_text format) rest)
          ∙ start-parted ((codes "#:file=" ++ (part ++ 10 ∷ [])) ++ (format_text format ++ rest)) _ (file-parted part (format_text format ++ rest) (format_sections format ss) e tail))
          ∙ start-told (line_section (codes "#:file=" ++ part) ∷ format_sections format ss) ∙ named.1 ∙ told.1,
    )
head-read false part format rest ss shown small next =
    let tail = format-parted format rest ss next in
    let told = format-told format None 52 ss in
    (told.0, ap from_start (start-parted (format_text format ++ rest) (format_sections format ss) tail) ∙ start-told (format_sections format ss) ∙ told.1)

pub trip : AsciiRoundTrip
trip pairs name format small short fit are =
    let n = length pairs in
    let part = file_part name in
    let rest = pairs_text pairs ++ end_text n in
    let sections = pairs-parted pairs (end_text n) (end_sections n) fit (end-parted n small) in
    let size = length-drop (length name - suffix_len (λ b. not (b == 47)) name) name in
    let read = head-read (is_shown part) part format rest (pair_sections pairs (end_sections n)) (λ e. and-right (not (length part == 0)) _ e) (omega (arith, size, short)) sections in
    let told = pairs-told pairs 0 read.0 n fit are (omega arith) small in
    subst (λ (t : Told). ReadsAs t (ascii_head name format) pairs) (sym read.1) (record { whole = (refl, told.0); list = told.1; accepted = told.2 })
