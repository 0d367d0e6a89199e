-- Laws of what is read and written.
use Rattle.std.specs.Prelude.{◌≡◌, ℕ, List, None}
use Rattle.gd_format.specs.HeaderFault.{header_of, header_fault_of}
use Rattle.gd_layout.specs.Fits.{FitsHeader, IsHeaderOf}

-- the header of a file without a header fault is one that can be written, and that no test refuses
abbrev pub HeaderFits : Type 0
HeaderFits = (bytes : List ℕ) (len : ℕ) → header_fault_of bytes len ≡ None → FitsHeader (header_of bytes) × IsHeaderOf (header_of bytes) len
