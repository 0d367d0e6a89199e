-- The numsync of a header, and what another one makes of a file.
use Rattle.std.specs.Prelude.{◌≡◌, ℕ, ◌+◌, ◌%◌, ◌^◌, List}
use Rattle.gd_base.specs.declared.errors.Format.{Format}
use Rattle.gd_base.specs.declared.errors.Format.TheVariants.{Standard, Numsync}
use Rattle.gd_format.specs.declared.Header.{Header}
use Rattle.gd_format.specs.Avail.{Avail}
use Rattle.gd_format.specs.File.{records}
use Rattle.gd_format.specs.Sound.{lost_total}
use Rattle.gd_numsync.specs.Open.{IsOpenOn}

abbrev pub number_in : Format → (old new : ℕ) → ℕ
number_in Standard old new = old
number_in Numsync old new = new

-- the header with this numsync, where its format has one
abbrev pub numbered : Header → ℕ → Header
numbered h n = record h { numsync = number_in h.format h.numsync n }

-- the numsync after this one
abbrev pub next_number : ℕ → ℕ
next_number n = (n + 1) % 2 ^ 32

abbrev pub raised : Header → Header
raised h = numbered h (next_number h.numsync)

-- the file is sound, with this header and this table; its records, in their order, and what is lost of it stay
pub record IsKept (h : Header) (table : Avail) (old new : List ℕ) : Type 0 where
  pub is_open : IsOpenOn h table new
  pub same : records new ≡ records old
  pub lost : lost_total new ≡ lost_total old
