-- What a datum's text that has come in part still gives.
use Rattle.std.specs.Prelude.{◌≡◌, ℕ, ◌+◌, Bool, true, false, List, ◌++◌, length, nat_lt, not, Result, Ok, Err, if◌then◌else◌}
use Rattle.gd_dump_reading.specs.AsciiItems.{datum_in, text_size}
use Rattle.gd_dump_reading.specs.Base64.{base64_text}
use Rattle.gd_dump_reading.specs.declared.items.DumpKind.{DumpKind}
use Rattle.gd_dump_reading.specs.declared.items.DumpKind.TheVariants.{Length, Base64, Truncated}
use Rattle.gd_dump_reading.specs.declared.text.Text.{Text}

-- a text of so many characters that is no base64
abbrev pub broken_in : (size at len : ℕ) (follows : Bool) (end : ℕ) → Result (List ℕ) (DumpKind × ℕ)
broken_in size at len follows end =
    if nat_lt (text_size size) len then Err (Length, at)
    else (if not follows then Err (Truncated, end)
    else (if nat_lt len (text_size size) then Err (Length, at) else Err (Base64, at)))

abbrev pub text_by : (bad : Bool) (size at len : ℕ) (text more : List ℕ) (follows : Bool) (end : ℕ) → Result (List ℕ) (DumpKind × ℕ)
text_by true size at len text more follows end = broken_in size at (len + length more) follows end
text_by false size at len text more follows end = datum_in size at (text ++ more) follows end

-- the bytes of the datum, where these characters come behind those that have come, and then a line or the input's end
abbrev pub text_left : Text → List ℕ → Bool → ℕ → Result (List ℕ) (DumpKind × ℕ)
text_left t more follows end = text_by t.bad t.size t.at t.len (base64_text t.bytes.items ++ t.quad.items) more follows end

-- some characters were taken
pub record Takes (old new : Text) (chars : List ℕ) : Type 0 where
  pub size : new.size ≡ old.size
  pub place : new.at ≡ old.at
  pub len : new.len ≡ old.len + length chars
  pub left : (more : List ℕ) (follows : Bool) (end : ℕ) → text_left old (chars ++ more) follows end ≡ text_left new more follows end
