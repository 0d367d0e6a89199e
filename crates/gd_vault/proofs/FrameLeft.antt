-- What a crash leaves of what a frame leaves alone.
use Rattle.std.proofs.Common.{◌≡◌, ◌≢◌, inr, ⊎_elim, ℕ, ◌+◌, ◌<◌, ◌≤◌, true, false, cond, leb, List, [], ◌∷◌, ◌++◌, Option, Some, None, refl, sym, ap, subst, ◌∙◌, arith, length-append}
use Rattle.std.proofs.lemmas.Bool.Decides.{leb_tells}
use Rattle.gd_vault.specs.Content.{File, Content}
use Rattle.gd_vault.specs.Effects.{file_of}
use Rattle.gd_vault.specs.Events.{Event, content_after, moment_after}
use Rattle.gd_vault.specs.History.{was, left, FileLeft, NameLeft, LeavesSince}
use Rattle.gd_vault.specs.Stands.{FileStands, NameStands}
use Rattle.gd_vault.specs.Frame.{Touches, Along, AsAtStart, Frame, Reads}
use Rattle.gd_vault.specs.Laws.{SamePast}
use Rattle.gd_vault.specs.Views.Told.{Records}
use Rattle.gd_vault.proofs.Left.{since_now, since_more, other_kept, other_inside, name_kept, name_inside}
use Rattle.gd_vault.specs.FrameLaws.{kept, named, along_has}

-- the past stays
pub left_past : (first : Content) (es more : List Event) (t : ℕ) (image : Content) → t ≤ moment_after es → left first (more ++ es) t image → left first es t image
left_past first es [] t image le l = l
left_past first es (e ∷ more) t image le l = left_past first es more t image le (l.earlier (omega (arith, length-append more es)))

pub past_left : (first : Content) (es more : List Event) (t : ℕ) (image : Content) → t ≤ moment_after es → left first es t image → left first (more ++ es) t image
past_left first es [] t image le l = l
past_left first es (e ∷ more) t image le l = record {
  earlier = λ _. past_left first es more t image le l;
  inside = λ is. absurd (omega (arith, length-append more es));
  after = λ is. absurd (omega (arith, length-append more es));
}

pub was_past : (first : Content) (es more : List Event) (t : ℕ) → t ≤ moment_after es → was first (more ++ es) t ≡ was first es t
was_past first es [] t le = refl
was_past first es (e ∷ more) t le =
    let test : leb t (moment_after (more ++ es) + 1) ≡ true = ⊎_elim (λ (h : (leb t (moment_after (more ++ es) + 1) ≡ true) × (t ≤ moment_after (more ++ es) + 1)). h.0) (λ (h : (leb t (moment_after (more ++ es) + 1) ≡ false) × (moment_after (more ++ es) + 1 < t)). absurd (omega (arith, h.1, length-append more es))) (leb_tells t (moment_after (more ++ es) + 1)) in
    ap (λ b. cond b (was first (more ++ es) t) e.after) test ∙ was_past first es more t le

-- what a name stands for is left of it
pub name_now : (first : Content) (es : List Event) (n : List ℕ) → NameLeft first es n ((content_after first es).names n)
name_now first [] n = refl
name_now first (e ∷ es) n = record { synced = λ _ _. refl; step = λ _. inr refl }

module _ (mine : ℕ → Type 0) (names : List ℕ → Type 0) (first : Content) (es : List Event) where
  not_own : (f : ℕ) (x : File) → (mine f → ⊥) → (content_after first es).files f ≡ Some x → (before : Content) (e : Event) → Touches mine names (content_after first es) before e → file_of e.call ≢ Some f
  not_own f x not_mine is before e touches own =
      ⊎_elim (λ (m : mine f). not_mine m) (λ (gone : (content_after first es).files f ≡ None). absurd (let wrong : Some x ≡ None = sym is ∙ gone in cc)) (touches.file f own)

  there : (more : List Event) → Along mine names first es more → (f : ℕ) (x : File) → (content_after first es).files f ≡ Some x → (content_after first (more ++ es)).files f ≢ None
  there more a f x is gone = let y = along_has mine names first es more a f (x, is) in (let wrong : Some y.0 ≡ None = sym y.1 ∙ gone in cc)

  pub along_file : (more : List Event) → Along mine names first es more → (f : ℕ) (x : File) → (mine f → ⊥) → (content_after first es).files f ≡ Some x → (y : File) → FileLeft first (more ++ es) f y → FileLeft first es f y
  along_file [] a f x not_mine is y l = l
  along_file (e ∷ more) a f x not_mine is y l = along_file more a.0 f x not_mine is y (other_kept first (more ++ es) e f y (there more a.0 f x is) (not_own f x not_mine is (content_after first (more ++ es)) e a.1) l)

  pub along_reads_name : (more : List Event) → Along mine names first es more → (n : List ℕ) → (names n → ⊥) → (content_after first (more ++ es)).names n ≡ (content_after first es).names n
  along_reads_name [] a n no_name = refl
  along_reads_name (e ∷ more) a n no_name = named e.ok e.call (content_after first (more ++ es)) e.after a.1.by_call n (λ r. no_name (a.1.name n r)) ∙ along_reads_name more a.0 n no_name

  pub along_reads_file : (more : List Event) → Along mine names first es more → (f : ℕ) (x : File) → (mine f → ⊥) → (content_after first es).files f ≡ Some x → (content_after first (more ++ es)).files f ≡ Some x
  along_reads_file [] a f x not_mine is = is
  along_reads_file (e ∷ more) a f x not_mine is = kept e.ok e.call (content_after first (more ++ es)) e.after a.1.by_call f x (not_own f x not_mine is (content_after first (more ++ es)) e a.1) (along_reads_file more a.0 f x not_mine is)

  pub along_name : (more : List Event) → Along mine names first es more → (n : List ℕ) → (names n → ⊥) → (z : Option ℕ) → NameLeft first (more ++ es) n z → NameLeft first es n z
  along_name [] a n no_name z l = l
  along_name (e ∷ more) a n no_name z l =
      let reads : NameLeft first es n ((content_after first (more ++ es)).names n) = subst (NameLeft first es n) (sym (along_reads_name more a.0 n no_name)) (name_now first es n) in
      name_kept first (more ++ es) n (NameLeft first es n) (along_name more a.0 n no_name) reads e (named e.ok e.call (content_after first (more ++ es)) e.after a.1.by_call n (λ r. no_name (a.1.name n r))) z l

  -- at each moment of the frame
  pub along_images : (more : List Event) → Along mine names first es more → LeavesSince first (more ++ es) (moment_after es) (λ t image. AsAtStart mine names first es image)
  along_images [] a = since_now first es (λ t image. AsAtStart mine names first es image) (λ image l. record {
    proper = l.proper;
    files = λ f x y not_mine is here. l.files f y here;
    names = λ n no_name. l.names n;
  })
  along_images (e ∷ more) a = since_more first e (more ++ es) (moment_after es) (λ t image. AsAtStart mine names first es image) (along_images more a.0)
      (λ image l. record {
        proper = l.proper;
        files = λ f x y not_mine is here. along_file more a.0 f x not_mine is y (other_inside first (more ++ es) e f y (there more a.0 f x is) (not_own f x not_mine is (content_after first (more ++ es)) e a.1) (l.files f y here));
        names = λ n no_name. name_inside first (more ++ es) n (NameLeft first es n) (along_name more a.0 n no_name) (subst (NameLeft first es n) (sym (along_reads_name more a.0 n no_name)) (name_now first es n)) e.call (λ r. no_name (a.1.name n r)) (image.names n) (l.names n);
      })
      (λ image l. record {
        proper = l.proper;
        files = λ f x y not_mine is here. along_file (e ∷ more) a f x not_mine is y (l.files f y here);
        names = λ n no_name. along_name (e ∷ more) a n no_name (image.names n) (l.names n);
      })

  pub along_file_stands : (more : List Event) → Along mine names first es more → (f : ℕ) (R L : File → Type 0) → (mine f → ⊥) → FileStands first es f R L → FileStands first (more ++ es) f R L
  along_file_stands more a f R L not_mine h = record {
    reads = (h.reads.0, along_reads_file more a f h.reads.0 not_mine h.reads.1, h.reads.2);
    left = λ x l. h.left x (along_file more a f h.reads.0 not_mine h.reads.1 x l);
  }

  pub along_name_stands : (more : List Event) → Along mine names first es more → (n : List ℕ) (id : ℕ) → (names n → ⊥) → NameStands first es n id → NameStands first (more ++ es) n id
  along_name_stands more a n id no_name h = record {
    reads = along_reads_name more a n no_name ∙ h.reads;
    left = λ z l. h.left z (along_name more a n no_name z l);
  }

pub same_past : (first : Content) (es more : List Event) (t : ℕ) → t ≤ moment_after es → SamePast first es more t
same_past first es more t le = record {
  was = was_past first es more t le;
  left = λ image. (left_past first es more t image le, past_left first es more t image le);
}

records_same : (first : Content) (now later : List Event) → Records first now ≡ Records first later → now ≡ later
records_same first now later e = cc

pub frame_images : (mine : ℕ → Type 0) (names : List ℕ → Type 0) (first : Content) (es now : List Event) → Frame mine names (Records first es) (Records first now) → LeavesSince first now (moment_after es) (λ t image. AsAtStart mine names first es image)
frame_images mine names first es now f =
    subst (λ l. LeavesSince first l (moment_after es) (λ t image. AsAtStart mine names first es image)) (sym (records_same first now (f.0 ++ es) f.1)) (along_images mine names first es f.0 f.2)

pub frame_reads : (mine : ℕ → Type 0) (names : List ℕ → Type 0) (first : Content) (es now : List Event) → Frame mine names (Records first es) (Records first now) → Reads mine names (content_after first es) (content_after first now)
frame_reads mine names first es now f =
    let reads : Reads mine names (content_after first es) (content_after first (f.0 ++ es)) = record {
      files = λ g x not_mine is. along_reads_file mine names first es f.0 f.2 g x not_mine is;
      names = λ n no_name. along_reads_name mine names first es f.0 f.2 n no_name;
      stay = λ g x is. along_has mine names first es f.0 f.2 g (x, is);
    } in
    subst (λ l. Reads mine names (content_after first es) (content_after first l)) (sym (records_same first now (f.0 ++ es) f.1)) reads
