-- The file of an open database over calls and over frames.
use Rattle.std.proofs.Common.{◌≡◌, ℕ, ◌+◌, ◌≤◌, Bool, true, List, ◌++◌, Option, Some, None, refl, sym, ap, subst, ◌∙◌, arith}
use Rattle.gd_vault.specs.Content.{File, Content}
use Rattle.gd_vault.specs.Events.{content_after}
use Rattle.gd_vault.specs.Events.Call.{Write}
use Rattle.gd_vault.specs.Effects as vault
use Rattle.gd_vault.specs.Views.{View, Told, HasFile, OnlyAsks, content_of}
use Rattle.gd_vault.specs.Views.Told.{Nothing, Tells, Records}
use Rattle.gd_vault.specs.Changes.{TellsAfter}
use Rattle.gd_vault.specs.Frame.{Frame, Within}
use Rattle.gd_vault.specs.Streams.{OnlyWrites}
use Rattle.gd_vault.proofs.Content.{content_step}
use Rattle.gd_vault.proofs.OneFile as one
use Rattle.gd_space.specs.Effect.{WritesAtMost}
use Rattle.gd_open.specs.Files.{FileBecomes}

-- no call in a frame takes a file away
pub still_there : {mine : ℕ → Type 0} {named : List ℕ → Type 0} {u v : View} (f : ℕ) → Within mine named u v → HasFile u f → HasFile v f
still_there {mine = mine} {named = named} {u = u} {v = v} f w has = one.frame_there mine named u v f w has

-- what is told at the end of a frame was told at its start, and there the file was
pub told_before : {mine : ℕ → Type 0} {named : List ℕ → Type 0} (u v : View) (f : ℕ) → Within mine named u v → HasFile u f → (c : Content) → content_of v.told ≡ Some c → (d : Content) × (x : File) × (content_of u.told ≡ Some d) × (d.files f ≡ Some x)
told_before {mine = mine} {named = named} u v f w has c told =
    let d = one.frame_told mine named u.told v.told c w.told told in
    let x = has d.0 d.1 in
    (d.0, x.0, d.1, x.1)

-- what a write makes of the file
pub becomes_written : (old new : View) (f at : ℕ) (bs : List ℕ) → TellsAfter (Write f at bs) true old.told new.told → FileBecomes old new f (λ xs ys. ys ≡ vault.written xs at bs)
becomes_written old new f at bs wrote c x told there =
    let step = content_step (Write f at bs) true old.told new.told wrote c told in
    let change : vault.Changes f (λ (x y : File). y ≡ record x { bytes = vault.written x.bytes at bs }) c step.0 = step.2 in
    let y = change.file x there in
    record { content = step.0; file = y.0; told = step.1; there = y.1; holds = ap (λ (z : File). z.bytes) y.2 }

-- one change after another
pub becomes_then : (u v w : View) (f : ℕ) (R S T : List ℕ → List ℕ → Type 0) → ((xs ys zs : List ℕ) → R xs ys → S ys zs → T xs zs) → FileBecomes u v f R → FileBecomes v w f S → FileBecomes u w f T
becomes_then u v w f R S T join one two c x told there =
    let a = one c x told there in
    let b = two a.content a.file a.told a.there in
    record { content = b.content; file = b.file; told = b.told; there = b.there; holds = join x.bytes a.file.bytes b.file.bytes a.holds b.holds }

-- what holds of the file before and after
pub before_after : {mine : ℕ → Type 0} {named : List ℕ → Type 0} (u v : View) (f : ℕ) (R : List ℕ → List ℕ → Type 0) → Within mine named u v → HasFile u f → FileBecomes u v f R → (c : Content) (y : File) → content_of v.told ≡ Some c → c.files f ≡ Some y
    → (d : Content) × (x : File) × (content_of u.told ≡ Some d) × (d.files f ≡ Some x) × R x.bytes y.bytes
before_after u v f R w has becomes c y told there =
    let b = told_before u v f w has c told in
    let t = becomes b.0 b.1 b.2 b.3 in
    let same : t.content ≡ c = cc (told, t.told) in
    let file : t.file ≡ y = cc (same, there, t.there) in
    (b.0, b.1, b.2, b.3, subst (λ (z : File). R b.1.bytes z.bytes) file t.holds)

-- ---- the same file by another name

pub writes_for : {f g : ℕ} {u v : View} → g ≡ f → OnlyWrites g u v → OnlyWrites f u v
writes_for {u = u} {v = v} same h = subst (λ (k : ℕ). OnlyWrites k u v) same h

pub there_for : {f g : ℕ} (v : View) → g ≡ f → HasFile v g → HasFile v f
there_for v same h = subst (λ (k : ℕ). HasFile v k) same h

pub becomes_for : {f g : ℕ} (u v : View) (R : List ℕ → List ℕ → Type 0) → g ≡ f → FileBecomes u v g R → FileBecomes u v f R
becomes_for u v R same h = subst (λ (k : ℕ). FileBecomes u v k R) same h

-- ---- how much was written

pub writes_more : (m n k : ℕ) (u v w : View) → m + n ≤ k → WritesAtMost m u v → WritesAtMost n v w → WritesAtMost k u w
writes_more m n k u v w le one two = record { bytes = (let a = one.bytes in let b = two.bytes in omega (arith, a, b, le)); clones = two.clones ∙ one.clones }

-- a reading writes nothing
pub writes_asked : (m : ℕ) (u v w : View) → WritesAtMost m u v → OnlyAsks v w → WritesAtMost m u w
writes_asked m u v w one asks = record { bytes = (let a = one.bytes in let b = asks.bytes_written in omega (arith, a, b)); clones = asks.clones ∙ one.clones }
