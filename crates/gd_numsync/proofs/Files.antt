-- One file over calls of a vault.
use Rattle.std.proofs.Common.{◌≡◌, ℕ, inr, Bool, true, false, List, length, Some, sym, ap, subst, arith}
use Rattle.gd_file_laws.specs.Frame.{written}
use Rattle.gd_vault.specs.Content.{File, Content}
use Rattle.gd_vault.specs.Events.Call.{Write}
use Rattle.gd_vault.specs.Effects.{Torn, Changes, DoesOrMayDo}
use Rattle.gd_vault.specs.Effects as vault
use Rattle.gd_vault.specs.Views.{View, HasFile, content_of}
use Rattle.gd_vault.specs.Changes.{TellsAfter}
use Rattle.gd_vault.specs.Frame.{OneFile, NoName}
use Rattle.gd_vault.specs.Streams.{OnlyWrites}
use Rattle.gd_vault.proofs.OneFile as one
use Rattle.gd_vault.proofs.Content.{content_step}
use Rattle.gd_vault.proofs.Torn.{written_torn}
use Rattle.gd_numsync.specs.Files.{FileBecomes, KeepsBehind}

-- what a write makes of the file
pub becomes_written : (old new : View) (f at : ℕ) (bs : List ℕ) → TellsAfter (Write f at bs) true old.told new.told → FileBecomes old new f (λ xs ys. ys ≡ vault.written xs at bs)
becomes_written old new f at bs wrote c x told there =
    let step = content_step (Write f at bs) true old.told new.told wrote c told in
    let change : Changes f (λ (x y : File). y ≡ record x { bytes = vault.written x.bytes at bs }) c step.0 = step.2 in
    let y = change.file x there in
    record { content = step.0; file = y.0; told = step.1; there = y.1; holds = ap (λ (z : File). z.bytes) y.2 }

-- a write, in the words of the laws
pub becomes_law : (old new : View) (f at : ℕ) (bs : List ℕ) → FileBecomes old new f (λ xs ys. ys ≡ vault.written xs at bs) → FileBecomes old new f (λ xs ys. ys ≡ written xs at bs)
unfolding written
becomes_law old new f at bs h = h

-- a write leaves at most its range torn
torn_change : (ok : Bool) (f at : ℕ) (bs : List ℕ) (c d : Content) (x : File) → DoesOrMayDo ok (Write f at bs) c d → c.files f ≡ Some x → (y : File) × (d.files f ≡ Some y) × Torn at (length bs) x.bytes y.bytes
torn_change true f at bs c d x h is =
    let change : Changes f (λ (x y : File). y ≡ record x { bytes = vault.written x.bytes at bs }) c d = h in
    let y = change.file x is in
    (y.0, y.1, subst (λ (z : File). Torn at (length bs) x.bytes z.bytes) (sym y.2) (written_torn x.bytes at bs))
torn_change false f at bs c d x h is =
    let change : Changes f (λ (x y : File). Torn at (length bs) x.bytes y.bytes × (y.mode ≡ x.mode) × (y.stamp ≡ x.stamp)) c d = h in
    let y = change.file x is in
    (y.0, y.1, y.2.0)

keeps_by_torn : (n size : ℕ) (old new : List ℕ) → n ≡ size → Torn 0 n old new → KeepsBehind size old new
keeps_by_torn n size old new same torn = record {
  as_long = λ le. let a = torn.no_shorter in let b = torn.no_longer in omega (arith, le, a, b, same);
  bytes = λ k low lt. torn.same k lt (inr (omega (arith, low, same)));
}

-- a write of the header's block, a failed one too, leaves what stands behind it
pub keeps_behind : (old new : View) (f size : ℕ) (bs : List ℕ) (ok : Bool) → length bs ≡ size → TellsAfter (Write f 0 bs) ok old.told new.told → FileBecomes old new f (KeepsBehind size)
keeps_behind old new f size bs ok same wrote c x told there =
    let step = content_step (Write f 0 bs) ok old.told new.told wrote c told in
    let y = torn_change ok f 0 bs c step.0 x step.2 there in
    record { content = step.0; file = y.0; told = step.1; there = y.1; holds = keeps_by_torn (length bs) size x.bytes y.0.bytes same y.2 }

-- what is told at the end of writes to a file was told at their start, and there the file was
pub told_before : {f : ℕ} (u v : View) → OnlyWrites f u v → HasFile u f → (c : Content) → content_of v.told ≡ Some c → (d : Content) × (x : File) × (content_of u.told ≡ Some d) × (d.files f ≡ Some x)
told_before {f = f} u v w has c told =
    let d = one.frame_told (OneFile f) NoName u.told v.told c w.within.told told in
    let x = has d.0 d.1 in
    (d.0, x.0, d.1, x.1)
