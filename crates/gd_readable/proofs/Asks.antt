-- What one call of a vault gives, in the words of a check.
use Rattle.std.proofs.Common.{◌≡◌, ◌+◌, ◌-◌, ◌^◌, ◌<◌, ◌≤◌, ℕ, true, List, length, take, min, Option, Some, None, refl, sym, ap, ◌∙◌, arith}
use Rattle.std.specs.Prelude.{option_map, is_some, Result}
use Rattle.gd_format.specs.Field.{bytes_at}
use Rattle.gd_vault.specs.Content.{File, Content}
use Rattle.gd_vault.specs.Views.{View, content_of, HasFile, Asked, Answered, OnlyAsks}
use Rattle.gd_readable.specs.declared.reading.Stopped.{Stopped}
use Rattle.gd_readable.specs.declared.reading.Stopped.TheVariants.{Fault, NoMemory}
use Rattle.gd_readable.specs.Asks.{Kept, kept_of, bytes_in, file_in, is_there, is_file_in, Tells, IsCause}

-- a cause of a later call
pub cause_later : (e : Stopped) (a b c : ℕ) → IsCause e b c → b ≡ a → IsCause e a c
cause_later e a b c cause same = rw (← same) cause

pub same_kept : (u v : View) → v.told ≡ u.told → v.bytes_written ≡ u.bytes_written → v.clones ≡ u.clones → kept_of v ≡ kept_of u
unfolding kept_of
same_kept u v a b c = rw (a, b, c) refl

pub asked_kept : {T E : Type 0} (r : Result T E) (u v : View) → Asked r u v → kept_of v ≡ kept_of u
asked_kept r u v a = same_kept u v a.told a.bytes_written a.clones

pub answered_kept : (f at : ℕ) (buf filled : List ℕ) (n : ℕ) (u v : View) → Answered f at buf filled n u v → kept_of v ≡ kept_of u
answered_kept f at buf filled n u v a = same_kept u v a.told a.bytes_written a.clones

of_some : {X : Type 0} (o : Option X) → is_some o ≡ true → (x : X) × (o ≡ Some x)
of_some None h = absurd cc
of_some (Some x) h = (x, refl)

is_there_of : (o : Option Content) (f : ℕ) → is_file_in o f ≡ true → (c : Content) → o ≡ Some c → (x : File) × (c.files f ≡ Some x)
is_there_of None f h c e = absurd cc
is_there_of (Some d) f h c e = let same : d ≡ c = cc in let there : is_some (c.files f) ≡ true = rw (← same) h in of_some (c.files f) there

pub there : (v : View) (f : ℕ) → is_there (kept_of v) f ≡ true → HasFile v f
unfolding is_there kept_of
there v f h c e = is_there_of (content_of v.told) f h c e

there_from : (o : Option Content) (f : ℕ) → ((c : Content) → o ≡ Some c → (x : File) × (c.files f ≡ Some x)) → is_file_in o f ≡ true
there_from None f h = refl
there_from (Some c) f h = let x = h c refl in rw x.1 refl

pub is_there_now : (v : View) (f : ℕ) → HasFile v f → is_there (kept_of v) f ≡ true
unfolding is_there kept_of
is_there_now v f h = there_from (content_of v.told) f h

file_of : (o : Option File) (file : List ℕ) → option_map (λ (x : File). x.bytes) o ≡ Some file → (x : File) × (o ≡ Some x) × (x.bytes ≡ file)
file_of None file h = absurd cc
file_of (Some x) file h = (x, refl, cc)

told_file : (o : Option Content) (f : ℕ) (file : List ℕ) → file_in o f ≡ Some file → (c : Content) × (x : File) × (o ≡ Some c) × (c.files f ≡ Some x) × (x.bytes ≡ file)
told_file None f file h = absurd cc
told_file (Some c) f file h = let x = file_of (c.files f) file h in (c, x.0, refl, x.1, x.2)

pub bytes_told : (v : View) (f : ℕ) (c : Content) (x : File) → content_of v.told ≡ Some c → c.files f ≡ Some x → bytes_in (kept_of v) f ≡ Some x.bytes
unfolding bytes_in kept_of
bytes_told v f c x told is = rw (told, is) refl

pub bytes_read : (u v : View) (f at : ℕ) (buf filled : List ℕ) (n : ℕ) → Answered f at buf filled n u v → Tells (bytes_in (kept_of u) f) (λ file. (n ≡ min (length buf) (length file - at)) × (take n filled ≡ bytes_at file at n))
unfolding bytes_in kept_of
bytes_read u v f at buf filled n a file told =
    let t = told_file (content_of u.told) f file told in
    rw t.4 at (a.bytes t.0 t.1 t.2 t.3)

pub len_read : (u : View) (f n : ℕ) → ((c : Content) → content_of u.told ≡ Some c → (x : File) → c.files f ≡ Some x → (n ≡ length x.bytes) × (n < 2 ^ 63)) → Tells (bytes_in (kept_of u) f) (λ file. length file ≡ n)
unfolding bytes_in kept_of
len_read u f n h file told =
    let t = told_file (content_of u.told) f file told in
    let e = h t.0 t.2 t.1 t.3 in
    ap length (sym t.4) ∙ sym e.0

-- what is told stays
pub told_then : (k l : Kept) (f : ℕ) (file : List ℕ) → k ≡ l → bytes_in l f ≡ Some file → bytes_in k f ≡ Some file
told_then k l f file same told = ap (λ (m : Kept). bytes_in m f) same ∙ told

pub only_asks : (u v : View) → kept_of v ≡ kept_of u → u.faults ≤ v.faults → OnlyAsks u v
unfolding kept_of
only_asks u v same later =
    record {
      told = ap (λ (k : Kept). k.told) same;
      later = later;
      bytes_written = ap (λ (k : Kept). k.bytes_written) same;
      clones = ap (λ (k : Kept). k.clones) same;
    }
