-- Chains of turns.
use Rattle.std.proofs.Common.{◌≡◌, ℕ, false, ◌≤◌, List, [], ◌∷◌, ◌++◌, length, Option, Some, refl, sym, ap, subst, ◌∙◌, arith, length-append}
use Rattle.std.proofs.lemmas.List.{append-nil, append_assoc}
use Rattle.gd_base.specs.Clocks.{Readings}
use Rattle.gd_base.proofs.Writes.{all-after, put-nothing}
use Rattle.gd_vault.specs.Content.{Content}
use Rattle.gd_vault.specs.Events.{Event, content_after, moment_after}
use Rattle.gd_vault.specs.Frame.{Frame}
use Rattle.gd_vault.specs.History.{was}
use Rattle.gd_vault.specs.Views.{Told, content_of}
use Rattle.gd_vault.specs.Views.Told.{Records}
use Rattle.gd_vault.proofs.FrameLeft.{same_past}
use Rattle.gd_vault.proofs.WasLeft.{was_now}
use Rattle.gd_script.specs.Answers as answers
use Rattle.gd_script.specs.Answers.{AnswerCause, AnyFile, AnyName, GivesMore, LineAnswers, LineSteps, LineTold, Rules, Scene, Text, given_in}
use Rattle.gd_script.specs.Chain.{Calm, Chain, Counted, Fitted, Fitting, IsCalm, LastTurn, Link, NeverFall, Now, answered_at, counts_of}
use Rattle.gd_script.specs.Lines.{Line}
use Rattle.gd_script.specs.Run.{Ran, Runs, now_of}
use Rattle.gd_script.specs.Turns.{CalmTurned, Objects, Turned, faults_of}
use Rattle.gd_script.specs.declared.turns.Faults.{Faults}
use Rattle.gd_script.specs.declared.turns.Turn.{Turn}

-- ---- a turn more

chain_push : {T : Type 0} (rules : Rules T) (was_at : ℕ → Content) (ds : List Line) (line : Line) (ts : List Turn) (t : Turn) (n mid m : Now T)
    → length ds ≡ length ts → Chain rules was_at ds ts n mid → Link rules was_at line t mid m → Chain rules was_at (ds ++ line ∷ []) (ts ++ t ∷ []) n m
unfolding Chain
chain_push {T = T} rules was_at [] line [] t n mid m e c l = (m, subst (λ (a : Now T). Link rules was_at line t a m) c l, refl)
chain_push rules was_at [] line (s ∷ ts) t n mid m e c l = absurd (omega (arith, e))
chain_push rules was_at (d ∷ ds) line [] t n mid m e c l = absurd (omega (arith, e))
chain_push rules was_at (d ∷ ds) line (s ∷ ts) t n mid m e c l = (c.0, c.1, chain_push rules was_at ds line ts t c.0 mid m (omega (arith, e)) c.2 l)

-- ---- more events

chain_later : {T : Type 0} (rules : Rules T) (was_at : ℕ → Content) (ds : List Line) (ts : List Turn) (n m : Now T) → Chain rules was_at ds ts n m → n.moment ≤ m.moment
unfolding Chain
chain_later {T = T} rules was_at ds [] n m c = omega (arith, ap (λ (k : Now T). k.moment) c)
chain_later rules was_at [] (t ∷ ts) n m c = absurd c
chain_later rules was_at (d ∷ ds) (t ∷ ts) n m c = omega (arith, c.1.later, chain_later rules was_at ds ts c.0 m c.2)

-- a link by other contents that agree at its moments
link_same : {T : Type 0} (rules : Rules T) (was_at now_at : ℕ → Content) (line : Line) (t : Turn) (n m : Now T) → now_at n.moment ≡ was_at n.moment → now_at m.moment ≡ was_at m.moment → Link rules was_at line t n m → Link rules now_at line t n m
link_same rules was_at now_at line t n m before after l = record {
  done = l.done;
  counts = l.counts;
  later = l.later;
  never_fall = l.never_fall;
  reply = l.reply;
  text = l.text;
  printed = l.printed;
  reading = l.reading;
  answers =
      subst (λ (c : Content). LineAnswers rules line t.answer (record (answered_at was_at t n m l.reply l.text) { before = c; after = now_at m.moment })) (sym before)
      (subst (λ (c : Content). LineAnswers rules line t.answer (record (answered_at was_at t n m l.reply l.text) { after = c })) (sym after) l.answers);
}

chain_more : {T : Type 0} (rules : Rules T) (first : Content) (es more : List Event) (ds : List Line) (ts : List Turn) (n m : Now T) → m.moment ≤ moment_after es
    → Chain rules (was first es) ds ts n m → Chain rules (was first (more ++ es)) ds ts n m
unfolding Chain
chain_more rules first es more ds [] n m le c = c
chain_more rules first es more [] (t ∷ ts) n m le c = c
chain_more rules first es more (d ∷ ds) (t ∷ ts) n m le c =
    let on = chain_later rules (was first es) ds ts c.0 m c.2 in
    let b = (same_past first es more n.moment (omega (arith, c.1.later, on, le))).was in
    let a = (same_past first es more c.0.moment (omega (arith, on, le))).was in
    (c.0, link_same rules (was first es) (was first (more ++ es)) d t n c.0 b a c.1, chain_more rules first es more ds ts c.0 m le c.2)

-- ---- counts

count_push : (f g : Faults) (ts : List Turn) (t : Turn) → Counted f ts g → NeverFall g t.faults → AnswerCause t.answer (counts_of g) (counts_of t.faults) → Counted f (ts ++ t ∷ []) t.faults
unfolding Counted
count_push f g [] t c later cause = (subst (λ (h : Faults). NeverFall h t.faults) c later, subst (λ (h : Faults). AnswerCause t.answer (counts_of h) (counts_of t.faults)) c cause, refl)
count_push f g (s ∷ ts) t c later cause = (c.0, c.1, count_push s.faults g ts t c.2 later cause)

never_fall : {T : Type 0} (rules : Rules T) (line : Line) (turns turns' : List Turn) (old new : Objects T) → Turned rules line turns turns' old new → NeverFall (faults_of old) (faults_of new)
never_fall rules line turns turns' old new t = record {
  input = omega (arith, t.input_faults);
  out = t.steps.later.out;
  err = t.err_later;
  vault = t.steps.later.vault;
  clock = t.steps.later.clock;
}

pub count_turn : {T : Type 0} (rules : Rules T) (line : Line) (turns turns' : List Turn) (start old new : Objects T) → Turned rules line turns turns' old new
    → Counted (faults_of start) turns (faults_of old) → Counted (faults_of start) turns' (faults_of new)
count_turn rules line turns turns' start old new t c =
    subst (λ (ts : List Turn). Counted (faults_of start) ts (faults_of new)) (sym t.pushed)
    (subst (λ (f : Faults). Counted (faults_of start) (turns ++ t.turn ∷ []) f) t.counts
    (count_push (faults_of start) (faults_of old) turns t.turn c
    (subst (λ (f : Faults). NeverFall (faults_of old) f) (sym t.counts) (never_fall rules line turns turns' old new t))
    (subst (λ (f : Faults). AnswerCause t.turn.answer (counts_of (faults_of old)) (counts_of f)) (sym t.counts) t.steps.cause)))

pub count_none : (f : Faults) → Counted f [] f
unfolding Counted
count_none f = refl

-- ---- what is owed over every vault

pub fitting_none : {T : Type 0} (rules : Rules T) (s : Scene T) → Fitting rules [] [] s s
unfolding Fitting
fitting_none rules s = refl

fitting_push : {T : Type 0} (rules : Rules T) (ds : List Line) (line : Line) (ts : List Turn) (t : Turn) (old mid new : Scene T)
    → Fitting rules ds ts old mid → Fitted rules line t mid new → Fitting rules (ds ++ line ∷ []) (ts ++ t ∷ []) old new
unfolding Fitting
fitting_push {T = T} rules [] line [] t old mid new f k = (new, subst (λ (s : Scene T). Fitted rules line t s new) f k, refl)
fitting_push rules [] line (s ∷ ts) t old mid new f k = absurd f
fitting_push rules (d ∷ ds) line [] t old mid new f k = absurd f
fitting_push rules (d ∷ ds) line (s ∷ ts) t old mid new f k = (f.0, f.1, fitting_push rules ds line ts t f.0 mid new f.2 k)

pub fitting_turn : {T : Type 0} (rules : Rules T) (ds : List Line) (line : Line) (turns turns' : List Turn) (start : Scene T) (old new : Objects T) → Turned rules line turns turns' old new
    → Fitting rules ds turns start old.scene → Fitting rules (ds ++ line ∷ []) turns' start new.scene
fitting_turn rules ds line turns turns' start old new t f =
    subst (λ (ts : List Turn). Fitting rules (ds ++ line ∷ []) ts start new.scene) (sym t.pushed)
    (fitting_push rules ds line turns t.turn start old.scene new.scene f record { counts = ap counts_of t.counts; moment = t.moment; fits = t.steps.fits })

-- ---- turns behind which another one may come

pub calm_none : (f : Faults) → Calm f [] []
unfolding Calm
calm_none f = tt

calm_push : (f g : Faults) (ds : List Line) (line : Line) (ts : List Turn) (t : Turn) → Calm f ds ts → Counted f ts g → IsCalm g line t → Calm f (ds ++ line ∷ []) (ts ++ t ∷ [])
unfolding Calm Counted
calm_push f g [] line [] t c n k = (subst (λ (h : Faults). IsCalm h line t) n k, tt)
calm_push f g [] line (s ∷ ts) t c n k = absurd c
calm_push f g (d ∷ ds) line [] t c n k = absurd c
calm_push f g (d ∷ ds) line (s ∷ ts) t c n k = (c.0, calm_push s.faults g ds line ts t c.1 n.2 k)

-- a turn in which nothing failed
pub calm_turn : {T : Type 0} (rules : Rules T) (ds : List Line) (line : Line) (turns turns' : List Turn) (start old new : Objects T)
    → (c : CalmTurned rules line false turns turns' old new) → Calm (faults_of start) ds turns → Counted (faults_of start) turns (faults_of old) → Calm (faults_of start) (ds ++ line ∷ []) turns'
calm_turn rules ds line turns turns' start old new c calm counted =
    let t = c.turned in
    subst (λ (ts : List Turn). Calm (faults_of start) (ds ++ line ∷ []) ts) (sym t.pushed)
    (calm_push (faults_of start) (faults_of old) ds line turns t.turn calm counted record {
      goes_on = c.quits_is;
      answered = c.calm.answered;
      input = ap (λ (f : Faults). f.input) t.counts ∙ t.input_faults;
      out = ap (λ (f : Faults). f.out) t.counts ∙ c.calm.out;
      err = ap (λ (f : Faults). f.err) t.counts ∙ c.calm.err;
    })

-- a turn more is the last one
unfoldable pub last_turn : {T : Type 0} (rules : Rules T) (ds : List Line) (line : Line) (turns turns' : List Turn) (f : Faults) (old new : Objects T)
    → Turned rules line turns turns' old new → Calm f ds turns → LastTurn f (ds ++ line ∷ []) turns'
last_turn rules ds line turns turns' f old new t calm = record {
  lines = ds;
  line = line;
  before = turns;
  turn = t.turn;
  ds_is = refl;
  turns_is = t.pushed;
  calm = calm;
}

-- ---- a line more

-- the answer of a line as a link
link_of : {T : Type 0} (rules : Rules T) (line : Line) (turns turns' : List Turn) (first : Content) (es more : List Event) (old new : Objects T) (out : Text) (readings : List ℕ)
    → old.scene.view.told ≡ Records first es → new.scene.view.told ≡ Records first (more ++ es)
    → (t : Turned rules line turns turns' old new) → (a : LineTold rules line t.turn.answer t.turn.reading old.scene new.scene (content_after first es))
    → Link rules (was first (more ++ es)) line t.turn (now_of old es out readings) (now_of new (more ++ es) (out ++ a.text) (readings ++ given_in t.turn.reading))
link_of {T = T} rules line turns turns' first es more old new out readings told told' t a =
    let up : moment_after es ≤ moment_after (more ++ es) = omega (arith, length-append more es) in
    let before : was first (more ++ es) (moment_after es) ≡ content_after first es = (same_past first es more (moment_after es) (omega arith)).was ∙ was_now first es in
    let at_end : content_of new.scene.view.told ≡ Some (content_after first (more ++ es)) = ap content_of told' in
    let same : a.after ≡ content_after first (more ++ es) = let both : Some a.after ≡ Some (content_after first (more ++ es)) = sym a.content ∙ at_end in cc in
    let after : was first (more ++ es) (moment_after (more ++ es)) ≡ a.after = was_now first (more ++ es) ∙ sym same in
    let n = now_of old es out readings in
    let m = now_of new (more ++ es) (out ++ a.text) (readings ++ given_in t.turn.reading) in record {
      done = sym (t.moment first (more ++ es) told');
      counts = sym t.counts;
      later = up;
      never_fall = never_fall rules line turns turns' old new t;
      reply = a.reply;
      text = a.text;
      printed = refl;
      reading = refl;
      answers =
          subst (λ (c : Content). LineAnswers rules line t.turn.answer (record (answered_at (was first (more ++ es)) t.turn n m a.reply a.text) { before = c })) (sym before)
          (subst (λ (c : Content). LineAnswers rules line t.turn.answer (record (answered_at (was first (more ++ es)) t.turn n m a.reply a.text) { before = content_after first es; after = c })) (sym after) a.is);
    }

pub gives_none : (told : Option Readings) → GivesMore told told []
gives_none told = λ r is. (r.next, is ∙ ap (λ (g : List ℕ). Some (record { given = g; next = r.next })) (sym (append-nil r.given)))

gives_more : (a b c : Option Readings) (xs ys : List ℕ) → GivesMore a b xs → GivesMore b c ys → GivesMore a c (xs ++ ys)
gives_more a b c xs ys f h = λ r is.
    let m = f r is in
    let n = h (record { given = r.given ++ xs; next = m.0 }) m.1 in
    (n.0, n.1 ∙ ap (λ (g : List ℕ). Some (record { given = g; next = n.0 })) (append_assoc r.given xs ys))

ran_more : {T : Type 0} (rules : Rules T) (ds : List Line) (line : Line) (turns turns' : List Turn) (first : Content) (es : List Event) (old mid new : Objects T)
    → length ds ≡ length turns → (t : Turned rules line turns turns' mid new) → Ran rules ds turns first es old mid → Ran rules (ds ++ line ∷ []) (turns ++ t.turn ∷ []) first es old new
ran_more {T = T} rules ds line turns turns' first es old mid new same t r =
    let events : List Event = r.more ++ es in
    let frame : Frame AnyFile AnyName (Records first events) new.scene.view.told = subst (λ (u : Told). Frame AnyFile AnyName u new.scene.view.told) r.told t.steps.grows.told in
    let more : List Event = frame.0 in
    let told : new.scene.view.told ≡ Records first (more ++ events) = frame.1 in
    let here : content_of mid.scene.view.told ≡ Some (content_after first events) = ap content_of r.told in
    let a = t.steps.told (content_after first events) here in
    let link = link_of rules line turns turns' first events more mid new r.out r.readings r.told told t a in
    let end = now_of new (more ++ events) (r.out ++ a.text) (r.readings ++ given_in t.turn.reading) in
    let c = chain_more rules first events more ds turns (now_of old es [] []) (now_of mid events r.out r.readings) (omega arith) r.chain in
    let pushed = chain_push rules (was first (more ++ events)) ds line turns t.turn (now_of old es [] []) (now_of mid events r.out r.readings) end same c link in
    let all : more ++ events ≡ (more ++ r.more) ++ es = sym (append_assoc more r.more es) in
    record {
      more = more ++ r.more;
      told = told ∙ ap (Records first) all;
      out = r.out ++ a.text;
      written = all-after old.scene.written mid.scene.written new.scene.written r.out a.text r.written a.written;
      readings = r.readings ++ given_in t.turn.reading;
      clock = gives_more old.scene.told mid.scene.told new.scene.told r.readings (given_in t.turn.reading) r.clock t.steps.clock;
      chain = subst (λ (ev : List Event). Chain rules (was first ev) (ds ++ line ∷ []) (turns ++ t.turn ∷ []) (now_of old es [] []) (now_of new ev (r.out ++ a.text) (r.readings ++ given_in t.turn.reading))) all pushed;
    }

-- a turn more
pub runs_more : {T : Type 0} (rules : Rules T) (ds : List Line) (line : Line) (turns turns' : List Turn) (old mid new : Objects T)
    → length ds ≡ length turns → (t : Turned rules line turns turns' mid new) → Runs rules ds turns old mid → Runs rules (ds ++ line ∷ []) turns' old new
runs_more rules ds line turns turns' old mid new same t runs =
    subst (λ (ts : List Turn). Runs rules (ds ++ line ∷ []) ts old new) (sym t.pushed)
    (λ first es told. ran_more rules ds line turns turns' first es old mid new same t (runs first es told))

pub runs_none : {T : Type 0} (rules : Rules T) (o : Objects T) → Runs rules [] [] o o
unfolding Chain
runs_none rules o = λ first es told. record { more = []; told = told; out = []; written = put-nothing o.scene.written; readings = []; clock = gives_none o.scene.told; chain = refl }

-- the same where only the input was asked since
pub runs_reread : {T : Type 0} (rules : Rules T) (ds : List Line) (turns : List Turn) (old mid new : Objects T)
    → new.scene ≡ mid.scene → new.input_faults ≡ mid.input_faults → new.err_faults ≡ mid.err_faults → Runs rules ds turns old mid → Runs rules ds turns old new
runs_reread {T = T} rules ds turns old mid new scene input err runs = λ first es told.
    let r = runs first es told in
    let at_now : (ev : List Event) (out : Text) (rs : List ℕ) → now_of mid ev out rs ≡ now_of new ev out rs = λ ev out rs. λ i. record {
      held = (sym scene i).held;
      moment = moment_after ev;
      faults = record { input = sym input i; out = (sym scene i).out_faults; err = sym err i; vault = (sym scene i).view.faults; clock = (sym scene i).clock_faults };
      out = out;
      readings = rs;
    } in
    record {
      more = r.more;
      told = ap (λ (s : answers.Scene T). s.view.told) scene ∙ r.told;
      out = r.out;
      written = ap (λ (s : answers.Scene T). s.written) scene ∙ r.written;
      readings = r.readings;
      clock = subst (λ (s : answers.Scene T). GivesMore old.scene.told s.told r.readings) (sym scene) r.clock;
      chain = subst (λ (n : Now T). Chain rules (was first (r.more ++ es)) ds turns (now_of old es [] []) n) (at_now (r.more ++ es) r.out r.readings) r.chain;
    }
