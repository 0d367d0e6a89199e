-- The base64 of bytes, and the bytes of which a text is the base64.
use Rattle.std.specs.Prelude.{ℕ, ◌&&◌, nat_lt, Bool, List, Option, Some, None, Result, Ok, Err, if◌then◌else◌}
use Rattle.std.specs.List.{list_all}
use Rattle.std.specs.Str.{bytes_eq}
use Rattle.base64.specs.Engines.{standard}
use Rattle.base64.specs.GeneralPurpose.{decode_of, encode_of}
use Rattle.base64.specs.declared.decode.DecodeError.{DecodeError}

-- RFC 4648 with padding
abbrev pub base64_text : List ℕ → List ℕ
base64_text bytes = encode_of standard bytes

abbrev pub is_byte : ℕ → Bool
is_byte b = nat_lt b 256

-- what a text is decoded to counts only where the text is the base64 of it
abbrev pub if_strict : List ℕ → Result (List ℕ) DecodeError → Option (List ℕ)
if_strict text (Ok bytes) = if bytes_eq (base64_text bytes) text && list_all is_byte bytes then Some bytes else None
if_strict text (Err e) = None

abbrev pub strict_bytes : List ℕ → Option (List ℕ)
strict_bytes text = if_strict text (decode_of standard text)
