-- Who is answered, and is not to be closed behind that, can go on to the next request.
use Rattle.std.proofs.Common.{◌≡◌, ◌≤◌, inl, inr, refl, sym, ap, ◌∙◌, ℕ, ◌*◌, Bool, true, false, ◌&&◌, not, List, length, Option, Some, None, is_ok, arith}
use Rattle.pp_comes_law.specs.Answered.{AnsweredOnesAreKeptOpen, AnsweredOnesGoOn, IsKeptOpen}
use Rattle.pp_law.specs.Lists.{Bytes, is_some_with}
use Rattle.pp_law.specs.Requests.{Front, Parsed, NoHeadYet, NoHead, IsRequest, keeps_after, keeps_open}
use Rattle.pp_law.specs.Stages.{is_begun}
use Rattle.pp_law.specs.State.{State, Client, Instance, Reply, Stage, Term, Undecided, Waiting, Passing, Answering}
use Rattle.pp_laws_replies.proofs.Quiet.{quiet_same}
use Rattle.pp_laws_replies.proofs.QuietTurns.{come_to-quiet}
use Rattle.pp_laws_replies.proofs.Stories.{Begun, Now, Orderly, Told, a_kept, a_page, a_passed, begun, chosen, order_of, quiet_orderly, undecided, waiting}
use Rattle.pp_laws_replies.proofs.StoryHappenings.{story_at}
use Rattle.pp_laws_room.proofs.Coming.{by_coming}
use Rattle.pp_laws_sides.proofs.Counted.{requests_counted}
use Rattle.pp_laws_turn.proofs.Lifts.{obeying}
use Rattle.pp_obeys.specs.Obeys.{Obeys}
use Rattle.pp_reply.specs.Keeping.{is_end_known}
use Rattle.pp_world.specs.Log.{Log}
use Rattle.pp_world.specs.declared.note.Decision.{Decision}
use Rattle.pp_comes_law.proofs.Wanted.{first_true}

-- ---- of a reply that began

kept : (closes keeps : Bool) → closes ≡ not keeps → closes ≡ false → keeps ≡ true
kept closes true is stays = refl
kept closes false is stays = absurd (let both : true ≡ false = sym is ∙ stays in cc both)

abbrev Keeps : Front → Type 0
Keeps f = (q : Parsed) × (f ≡ IsRequest q) × (keeps_open q ≡ true)

of_page : (status : ℕ) (f : Front) → keeps_after status f ≡ true → Keeps f
of_page status NoHeadYet keeps = absurd (cc keeps)
of_page status (NoHead other) keeps = absurd (cc keeps)
of_page status (IsRequest q) keeps = (q, refl, (first_true (keeps_open q) _ keeps).0)

of_begun : {instances : List Instance} {next : ℕ} (f : Front) (closes : Bool) (r : Reply) (head body : Bytes) → Begun instances next f closes r head body → closes ≡ false → Keeps f
of_begun f closes r head body (a_page status is_decided to is none end) stays = of_page status f (kept closes (keeps_after status f) end stays)
of_begun f closes r head body (a_kept q front by k given end) stays = (q, front, kept closes (keeps_open q) end stays)
of_begun f closes r head body (a_passed q front is_on p end) stays = (q, front, (first_true (keeps_open q) (is_end_known p.rule q.head.minor) (kept closes (keeps_open q && is_end_known p.rule q.head.minor) end stays)).0)

-- ---- of one whose reply began

abbrev begun_in : Stage → Bool
begun_in t = is_some_with (λ (r : Reply). r.has_begun) (elim t as (λ b. Option Reply) [ Undecided ↦ None | Waiting ↦ None | Passing ↦ None | Answering r ↦ Some r ])

not_yet : (c : Client) (t : Stage) → c.stage ≡ t → begun_in t ≡ false → is_begun c ≡ true → ⊥
not_yet c t stage off on = absurd (let both : false ≡ true = sym (ap begun_in stage ∙ off) ∙ on in cc both)

of_now : (instances : List Instance) (next : ℕ) (decided : Option Decision) (c : Client) (last : Bytes) → Now instances next decided c last → is_begun c ≡ true → c.closes ≡ false → Keeps c.front
of_now instances next decided c last (undecided stage none is) on stays = absurd (not_yet c Undecided stage refl on)
of_now instances next decided c last (waiting (inl stage) has is) on stays = absurd (not_yet c Waiting stage refl on)
of_now instances next decided c last (waiting (inr stage) has is) on stays = absurd (not_yet c Passing stage.0 refl on)
of_now instances next decided c last (chosen r stage off taken has is what) on stays = absurd (not_yet c (Answering r) stage off on)
of_now instances next decided c last (begun r stage is_on taken has head body is rest what) on stays = of_begun c.front c.closes r head body what stays

-- ---- in each state

story_on : (n : ℕ) (terms : List Term) (s : State) (log : Log) → Obeys terms s log → (told : Told) × Orderly n told s
story_on n terms s log obeys =
    let at = story_at n terms log obeys.lawful in
    (at.0, obeying (λ (t : State). Orderly n at.0 t) (by_coming (λ (t : State). Orderly n at.0 t) (λ p t h. quiet_orderly t _ (come_to-quiet p t (quiet_same t)) h)) terms s log obeys at.1)

pub kept_open : AnsweredOnesAreKeptOpen
kept_open terms s log obeys c there on stays =
    let at = story_on c.number terms s log obeys in
    let story = (order_of at.1).present c there refl in
    let its : Keeps c.front = of_now s.instances s.next_instance (at.0.decided c.index) c story.last story.now on stays in
    record { request = its.0; front = its.1; keeps = its.2 }

pub goes_on : AnsweredOnesGoOn
goes_on terms s log obeys short c there going on stays =
    let one : IsKeptOpen c = kept_open terms s log obeys c there on stays in
    record {
      request = one.request;
      front = one.front;
      known = (first_true _ (is_ok one.request.rule) one.keeps).1;
      counted = let le : c.index ≤ 256 * length log = requests_counted terms s log obeys c there in omega (arith, short);
    }
