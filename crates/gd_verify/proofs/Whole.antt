-- The whole check.
use Rattle.std.proofs.Common.{◌≡◌, ℕ, ◌≤◌, List, length, true, Some, None, refl, sym, ap, ◌∙◌, arith}
use Rattle.gd_base.specs.declared.errors.DbError.{DbError}
use Rattle.gd_format.specs.declared.Header.{Header}
use Rattle.gd_format.specs.HeaderFault.{header_of}
use Rattle.gd_format.specs.File.{file_fault, front_of}
use Rattle.gd_format.specs.Sound.{sound_fault, space_fault}
use Rattle.gd_format.proofs.Firsts.{or_else-none}
use Rattle.gd_vault.specs.Content.{File, Content}
use Rattle.gd_vault.specs.Views.{View, HasFile, OnlyAsks, content_of}
use Rattle.gd_readable.specs.Asks.{kept_of, bytes_in, is_there, RefusesFile}
use Rattle.gd_readable.proofs.Asks.{bytes_told, is_there_now, only_asks}
use Rattle.gd_readable.proofs.Headers.{header_in}
use Rattle.gd_readable.proofs.Walks.{dir_none}
use Rattle.gd_readable.proofs.Refusals.{refuses_map}
use Rattle.gd_verify.specs.Known.{IsReadBy}
use Rattle.gd_verify.specs.Refused.{RefusesSound}

-- ---- the file that was read

read_whole : (file : List ℕ) → file_fault file ≡ None → IsReadBy file (header_of (front_of file))
unfolding file_fault
read_whole file none = record { inside = header_in (front_of file) (length file) (or_else-none _ _ none).0; dir = dir_none file none }

pub read_by : (file : List ℕ) (h : Header) → file_fault file ≡ None → h ≡ header_of (front_of file) → IsReadBy file h
read_by file h none is = rw is (read_whole file none)

pub sound_none : (file : List ℕ) (h : Header) → file_fault file ≡ None → h ≡ header_of (front_of file) → None ≡ space_fault file h → sound_fault file ≡ None
unfolding sound_fault
sound_none file h none is space =
    let here : space_fault file (header_of (front_of file)) ≡ None = rw is at (sym space) in
    rw (none, here) refl

pub sound_some : (file : List ℕ) (h : Header) (e : DbError) → file_fault file ≡ None → h ≡ header_of (front_of file) → Some e ≡ space_fault file h → sound_fault file ≡ Some e
unfolding sound_fault
sound_some file h e none is space =
    let here : space_fault file (header_of (front_of file)) ≡ Some e = rw is at (sym space) in
    rw (none, here) refl

unreadable : (file : List ℕ) (e : DbError) → file_fault file ≡ Some e → sound_fault file ≡ Some e
unfolding sound_fault
unreadable file e is = rw is refl

-- ---- the vault

pub there_after : (u v : View) (f : ℕ) → OnlyAsks u v → HasFile u f → is_there (kept_of v) f ≡ true
there_after u v f asks has = is_there_now v f (λ c told. has c (sym (ap content_of asks.told) ∙ told))

pub told_after : (u v : View) (f : ℕ) (c : Content) (x : File) → OnlyAsks u v → content_of u.told ≡ Some c → c.files f ≡ Some x → bytes_in (kept_of v) f ≡ Some x.bytes
told_after u v f c x asks told is = bytes_told v f c x (ap content_of asks.told ∙ told) is

pub asks_both : (u v w : View) → OnlyAsks u v → kept_of w ≡ kept_of v → v.faults ≤ w.faults → OnlyAsks u w
asks_both u v w asks same later =
    let then = only_asks v w same later in
    record {
      told = then.told ∙ asks.told;
      later = omega (arith, asks.later, later);
      bytes_written = then.bytes_written ∙ asks.bytes_written;
      clones = then.clones ∙ asks.clones;
    }

pub refused_at_once : (e : DbError) (f : ℕ) (u v : View) → RefusesFile e f u v → RefusesSound e f u v
refused_at_once e f u v h = refuses_map e _ _ _ _ (λ x. x) (λ fault c x told is. unreadable x.bytes e (fault c x told is)) h
