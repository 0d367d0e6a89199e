-- Steps over a vault, one after another.
use Rattle.std.proofs.Common.{◌≡◌, ℕ, ◌+◌, List, Some, sym, ap, subst, ◌∙◌, arith}
use Rattle.gd_format.specs.declared.Extent.{Extent}
use Rattle.gd_format.specs.declared.Header.{Header}
use Rattle.gd_format.specs.FreeSide.{StackBlock}
use Rattle.gd_space.specs.Calls.{free_lists}
use Rattle.gd_vault.specs.Content.{File, Content}
use Rattle.gd_vault.specs.Views.{View, HasFile, content_of}
use Rattle.gd_vault.specs.Frame.{Within}
use Rattle.gd_update.specs.Held.{IsHeld, Holds}
use Rattle.gd_update.specs.Steps.{IsStep, Steps}
use Rattle.gd_update.proofs.Files.{told_first}

same_content : {c d : Content} → Some c ≡ Some d → c ≡ d
same_content e = cc

same_file : {x y : File} → Some x ≡ Some y → x ≡ y
same_file e = cc

-- what is told afterwards comes from what was told before
pub record Came (u v : View) (f : ℕ) (h h' : Header) (top top' : ℕ) (table loose table' loose' : List Extent) (more : ℕ) (P : List ℕ → Type 0) (y : File) : Type 0 where
  pub content : Content
  pub file : File
  pub blocks : List StackBlock
  pub blocks' : List StackBlock
  pub told : content_of u.told ≡ Some content
  pub there : content.files f ≡ Some file
  pub held : IsHeld file.bytes h top (free_lists table blocks loose)
  pub step : IsStep file.bytes y.bytes h h' top' (free_lists table blocks loose) (free_lists table' blocks' loose') more
  pub is : P y.bytes

pub came :
    {mine : ℕ → Type 0} {named : List ℕ → Type 0} (u v : View) (f : ℕ) (h h' : Header) (top top' : ℕ) (table loose table' loose' : List Extent) (more : ℕ) (P : List ℕ → Type 0)
    → Within mine named u v → HasFile u f → Holds u f h top table loose → Steps u v f h h' top top' table loose table' loose' more P
    → (d : Content) (y : File) → content_of v.told ≡ Some d → d.files f ≡ Some y → Came u v f h h' top top' table loose table' loose' more P y
came u v f h h' top top' table loose table' loose' more P frame has holds steps d y told there =
    let old = told_first u v d frame told in
    let x = has old.0 old.1 in
    let s = holds old.0 x.0 old.1 x.1 in
    let a = steps old.0 x.0 s.0 old.1 x.1 s.1 in
    let same : a.content ≡ d = same_content (sym a.told ∙ told) in
    let is : a.file ≡ y = same_file (sym a.there ∙ ap (λ (k : Content). k.files f) same ∙ there) in
    record {
      content = old.0;
      file = x.0;
      blocks = s.0;
      blocks' = a.blocks;
      told = old.1;
      there = x.1;
      held = s.1;
      step = subst (λ (k : File). IsStep x.0.bytes k.bytes h h' top' (free_lists table s.0 loose) (free_lists table' a.blocks loose') more) is a.step;
      is = subst (λ (k : File). P k.bytes) is a.buckets;
    }

-- the file is held afterwards
pub holds_after :
    {mine : ℕ → Type 0} {named : List ℕ → Type 0} (u v : View) (f : ℕ) (h h' : Header) (top top' : ℕ) (table loose table' loose' : List Extent) (more : ℕ) (P : List ℕ → Type 0)
    → Within mine named u v → HasFile u f → Holds u f h top table loose → Steps u v f h h' top top' table loose table' loose' more P → Holds v f h' top' table' loose'
holds_after u v f h h' top top' table loose table' loose' more P frame has holds steps d y told there =
    let a = came u v f h h' top top' table loose table' loose' more P frame has holds steps d y told there in
    (a.blocks', a.step.held)

-- two steps are one
pub steps_then :
    (u v w : View) (f : ℕ) (h h1 h2 : Header) (top top1 top2 : ℕ) (table loose table1 loose1 table2 loose2 : List Extent) (m n : ℕ) (P Q : List ℕ → Type 0)
    → Steps u v f h h1 top top1 table loose table1 loose1 m P → Steps v w f h1 h2 top1 top2 table1 loose1 table2 loose2 n Q → Steps u w f h h2 top top2 table loose table2 loose2 (m + n) Q
steps_then u v w f h h1 h2 top top1 top2 table loose table1 loose1 table2 loose2 m n P Q one two c x blocks told there held =
    let a = one c x blocks told there held in
    let b = two a.content a.file a.blocks a.told a.there a.step.held in
    record {
      content = b.content;
      file = b.file;
      blocks = b.blocks;
      told = b.told;
      there = b.there;
      step = record {
        held = b.step.held;
        map = λ key. b.step.map key ∙ a.step.map key;
        lost = let p = a.step.lost in let q = b.step.lost in omega (arith, p, q);
      };
      buckets = b.buckets;
    }

-- what a step says of the file, in other words
pub steps_say :
    (u v : View) (f : ℕ) (h h' : Header) (top top' : ℕ) (table loose table' loose' : List Extent) (more : ℕ) (P Q : List ℕ → Type 0)
    → ((file : List ℕ) → P file → Q file) → Steps u v f h h' top top' table loose table' loose' more P → Steps u v f h h' top top' table loose table' loose' more Q
steps_say u v f h h' top top' table loose table' loose' more P Q say steps c x blocks told there held =
    let a = steps c x blocks told there held in
    record { content = a.content; file = a.file; blocks = a.blocks; told = a.told; there = a.there; step = a.step; buckets = say a.file.bytes a.buckets }

-- ---- the same file by another id

pub holds_for : {f g : ℕ} (v : View) {h : Header} {top : ℕ} {table loose : List Extent} → g ≡ f → Holds v f h top table loose → Holds v g h top table loose
holds_for v {h = h} {top = top} {table = table} {loose = loose} same holds = subst (λ (n : ℕ). Holds v n h top table loose) (sym same) holds

pub steps_for : {f g : ℕ} (u v : View) {h h' : Header} {top top' : ℕ} {table loose table' loose' : List Extent} {more : ℕ} {P : List ℕ → Type 0} → g ≡ f → Steps u v g h h' top top' table loose table' loose' more P → Steps u v f h h' top top' table loose table' loose' more P
steps_for u v {h = h} {h' = h'} {top = top} {top' = top'} {table = table} {loose = loose} {table' = table'} {loose' = loose'} {more = more} {P = P} same steps = subst (λ (n : ℕ). Steps u v n h h' top top' table loose table' loose' more P) same steps
