-- The front of a file, in which its header stands.
use Rattle.std.proofs.Common.{◌≡◌, ℕ, ◌-◌, ◌<◌, List, length, take, min, None, refl, sym, ap, ◌∙◌, inl, inr, arith}
use Rattle.std.proofs.lemmas.Bool.{cases_lt}
use Rattle.gd_format.specs.Field.{bytes_at}
use Rattle.std.proofs.lemmas.List.{take_all, length-take-le}
use Rattle.gd_format.specs.declared.Header.{Header}
use Rattle.gd_format.specs.HeaderFault.{header_fault_of, header_of}
use Rattle.gd_readable.proofs.Headers.{header_in}
use Rattle.gd_format.specs.File.{dir_fault, file_fault, front_of}

pub short_front : (file : List ℕ) → length file < 80 → file ≡ front_of file
short_front file lt = sym (take_all 80 file (omega arith))

pub long_front : (file : List ℕ) → take 80 file ≡ front_of file
long_front file = refl

-- a file without a header fault has a whole front
pub front_size : (file : List ℕ) → header_fault_of (front_of file) (length file) ≡ None → length (take 80 file) ≡ 80
front_size file none =
    let h = header_in (front_of file) (length file) none in
    let least = h.least in
    let fits = h.fits in
    length-take-le 80 file (omega arith)

-- the bytes that were read from the front on are those in which the header stands
pub front_read : (file bytes : List ℕ) (n : ℕ) → n ≡ min 80 (length file - 0) → bytes ≡ bytes_at file 0 n → bytes ≡ front_of file
front_read file bytes n e is =
    elim (cases_lt (length file) 80) [
      | inl short ↦ let same : n ≡ length file = omega arith in is ∙ ap (bytes_at file 0) same ∙ take_all (length file) file (omega arith) ∙ sym (take_all 80 file (omega arith))
      | inr long ↦ let same : n ≡ 80 = omega arith in is ∙ ap (bytes_at file 0) same
    ]

pub no_fault : (file : List ℕ) (len : ℕ) (h : Header) → length file ≡ len → header_fault_of (front_of file) len ≡ None → h ≡ header_of (front_of file) → dir_fault file h ≡ None → file_fault file ≡ None
unfolding file_fault
no_fault file len h size none is dir =
    let head : header_fault_of (front_of file) (length file) ≡ None = rw size none in
    let walk : dir_fault file (header_of (front_of file)) ≡ None = rw is at dir in
    rw head walk
