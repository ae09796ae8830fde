-- A request that is refused, or for which an origin is asked, keeps it.
use Rattle.std.proofs.Common.{◌≡◌, refl, ℕ, ◌≤◌, Bool, true, false, not, ◌==◌, List, filter, Option, Some, None, Result, Ok, Err, sym, subst, ap, ◌∙◌, le_refl, zero-le}
use Rattle.pp_ask.specs.declared.kind.AskKind.{AskKind}
use Rattle.pp_head.specs.Request.{Request}
use Rattle.pp_target.specs.Key.{Key, text_of}
use Rattle.pp_target.specs.declared.target.TargetFault.{TargetFault}
use Rattle.pp_world.specs.declared.note.Decision.{Decision}
use Rattle.pp_law.specs.Closing.{forsake, is_of, is_over, leave, left_alone}
use Rattle.pp_law.specs.Connections.{is_client, on_client}
use Rattle.pp_law.specs.Deciding.{add_exchange, ask_as, ask_for, ask_origin, asking_with, begin_exchange, is_pass, new_exchange, refuse, refused_with}
use Rattle.pp_law.specs.Decisions.{kind_of}
use Rattle.pp_law.specs.Lists.{change, is_some_with, is_this}
use Rattle.pp_law.specs.Requests.{Front, Parsed, NoHeadYet, NoHead, IsRequest, key_in}
use Rattle.pp_valid.specs.declared.version.Version.{Version}
use Rattle.pp_law.specs.Stages.{filled_of, is_headed}
use Rattle.pp_law.specs.State.{State, Aim, Through, Own, Filling, Client, Exchange, Instance, Stage, Waiting, Passing}
use Rattle.pp_law.specs.Table.{row_for}
use Rattle.pp_laws.specs.Runs.{IsIn}
use Rattle.pp_laws.proofs.Lists.{Changed, in_change, in_filter, other, same}
use Rattle.pp_laws.proofs.Sound.{source_in}
use Rattle.pp_laws.proofs.Tests.{number_same, same_number}
use Rattle.pp_laws_turn.proofs.Cases.{each_of}
use Rattle.pp_laws_turn.proofs.Rows.{swept-keeps}
use Rattle.pp_laws_turn.proofs.View.{Holds, facts_of, holds}
use Rattle.pp_laws_coming.specs.Coming.{is_waiting, may_have_ask}
use Rattle.pp_laws_coming.proofs.Alone.{NoneIsOf, all_count, leave_come, none_is_of, push_come}
use Rattle.pp_laws_coming.proofs.Facts.{Coming, IsTold, Settled, rows}
use Rattle.pp_laws_coming.proofs.Stays.{client_but, unsourced}

-- ---- decisions

-- a client of which anything is made, and that leaves its exchanges
pub leaves-comes : {late : Bool} → (n : ℕ) (f : Client → Client) (s : State) → ((c : Client) → (f c).number ≡ c.number) → ((c : Client) → IsIn c s.clients → c.number ≡ n → Settled s.instances s.next_instance (f c)) → Holds (Coming late) s → Holds (Coming late) (leave (is_of n) (on_client n f s))
unfolding leave forsake on_client
leaves-comes n f s number settled h =
    holds
    (all_count n (change (is_client n) f s.clients) (filter (λ e. not (is_over e)) (change (is_of n) left_alone s.exchanges)) s.next_exchange s.instances s.next_instance
    (λ e i asks. none_is_of n s.exchanges e (in_filter (λ x. not (is_over x)) e (change (is_of n) left_alone s.exchanges) i).0 asks)
    (leave_come (Some n) (is_of n) (change (is_client n) f s.clients) s.exchanges s.next_exchange s.instances s.next_instance (client_but n f s.clients s.exchanges s.next_exchange s.instances s.next_instance number settled (facts_of h))))

pub refuse-comes : {late : Bool} → (c : Client) (status : ℕ) (s : State) → Holds (Coming late) s → Holds (Coming late) (refuse c status s)
unfolding refuse
refuse-comes c status s h = swept-keeps rows _ (leaves-comes c.number (refused_with status) s (λ d. refl) (λ d i is. unsourced s.instances s.next_instance (refused_with status d) refl (λ off. refl)) h)

-- it is for that client, of whose other exchanges none is left
pub begin_exchange-comes : {late : Bool} → (e : Exchange) (n : ℕ) (s : State) → e.number ≡ s.next_exchange → e.place ≡ None → e.asked ≡ 0 → is_headed e ≡ false → e.asker ≡ Some n → ((c : Client) → IsIn c s.clients → c.number ≡ n → IsTold s.instances e c) → Holds (Coming late) s
    → Holds (Coming late) (begin_exchange e s)
unfolding begin_exchange add_exchange leave forsake
begin_exchange-comes e n s number place asked unheaded asks told h =
    holds (push_come s.clients rest e s.next_exchange n s.instances s.next_instance number place asked unheaded asks none told (leave_come None test s.clients s.exchanges s.next_exchange s.instances s.next_instance (facts_of h)))
  where
    test : Exchange → Bool
    test x = is_some_with (λ m. is_of m x) e.asker

    rest : List Exchange
    rest = filter (λ x. not (is_over x)) (change test left_alone s.exchanges)

    none : NoneIsOf n rest
    none d i its = by (in_change test left_alone d s.exchanges (in_filter (λ x. not (is_over x)) d (change test left_alone s.exchanges) i).0)
      where
        hit : test d ≡ true
        hit = ap (λ (o : Option ℕ). is_some_with (λ m. is_of m d) o) asks ∙ ap (is_this n) its ∙ number_same n

        by : Changed test left_alone s.exchanges d → ⊥
        by (same j isnt) = let both : true ≡ false = sym hit ∙ isnt in cc both
        by (other x j on eq) = let both : None ≡ Some n = sym (ap (λ (y : Exchange). y.asker) eq) ∙ its in cc both

pass_waits : (pass : Bool) → is_waiting (elim pass as (λ t. Stage) [ true ↦ Passing | false ↦ Waiting ]) ≡ true
pass_waits true = refl
pass_waits false = refl

pass_stands : (pass : Bool) → may_have_ask (elim pass as (λ t. Stage) [ true ↦ Passing | false ↦ Waiting ]) ≡ true
pass_stands true = refl
pass_stands false = refl

-- it fills no hole
pass_fills : (pass : Bool) → (elim (elim pass as (λ t. Aim) [ true ↦ Through | false ↦ Own ]) as (λ t. Option Version) [ Through ↦ None | Own ↦ None | Filling v from to ↦ Some v ]) ≡ None
pass_fills true = refl
pass_fills false = refl

pass_sourced : (pass : Bool) → source_in (elim pass as (λ t. Stage) [ true ↦ Passing | false ↦ Waiting ]) ≡ None
pass_sourced true = refl
pass_sourced false = refl

asking_settled : (xs : List Instance) (next_row : ℕ) (d : Decision) (c : Client) → Settled xs next_row (asking_with d c)
asking_settled xs next_row d c = unsourced xs next_row (asking_with d c) (pass_sourced (is_pass d)) (λ off. refl)

asking_told : (xs : List Instance) (e : Exchange) (d : Decision) (c : Client) → filled_of e ≡ None → e.body_left ≤ c.body_left → key_in c.front ≡ Some e.key → IsTold xs e (asking_with d c)
asking_told xs e d c none left key = record {
  left = left;
  waits = λ fills off. record { stage = pass_waits (is_pass d); brought = refl };
  untold = λ off. refl;
  coming = refl;
  stands = pass_stands (is_pass d);
  fills = λ v is. let both : None ≡ Some v = sym none ∙ is in absurd (cc both);
  key = key;
  bound = λ fills x i follows. (let both : None ≡ Some x.id = sym (pass_sourced (is_pass d)) ∙ follows.source in absurd (cc both));
}

ask_for-comes : {late : Bool} → (c : Client) (d : Decision) (head : Request) (key : Key) (kind : AskKind) (s : State) → key_in c.front ≡ Some key → IsIn c s.clients → Holds (Coming late) s → Holds (Coming late) (ask_for c d head key kind s)
unfolding ask_for leave forsake on_client
ask_for-comes c d head key kind s keyed there h =
    swept-keeps rows _
    (begin_exchange-comes (new_exchange s c head key d kind) c.number _ refl refl refl refl refl (λ x i is. told x is (in_change (is_client c.number) (asking_with d) x s.clients i))
    (leaves-comes c.number (asking_with d) s (λ x. refl) (λ x i is. asking_settled s.instances s.next_instance d x) h))
  where
    pass_left : (pass : Bool) {y : Client} → y ≡ c → (elim pass as (λ x. ℕ) [ true ↦ c.body_left | false ↦ 0 ]) ≤ y.body_left
    pass_left true eq = subst (λ (z : Client). c.body_left ≤ z.body_left) (sym eq) (le_refl c.body_left)
    pass_left false eq = zero-le

    told : (x : Client) → x.number ≡ c.number → Changed (is_client c.number) (asking_with d) s.clients x → IsTold s.instances (new_exchange s c head key d kind) x
    told x is (same j isnt) = let both : true ≡ false = sym (number_same c.number) ∙ ap (λ (n : ℕ). n == c.number) (sym is) ∙ isnt in absurd (cc both)
    told x is (other y j hit eq) =
        let one : y ≡ c = (facts_of h).callers y c j there (same_number y.number c.number hit) in
        subst (λ (z : Client). IsTold s.instances (new_exchange s c head key d kind) z) (sym eq) (asking_told s.instances (new_exchange s c head key d kind) d y (pass_fills (is_pass d)) (pass_left (is_pass d) one) (ap (λ (z : Client). key_in z.front) one ∙ keyed))

ask_as-comes : {late : Bool} → (c : Client) (d : Decision) (head : Request) (key : Key) (s : State) → key_in c.front ≡ Some key → IsIn c s.clients → Holds (Coming late) s → Holds (Coming late) (ask_as c d head key s)
unfolding ask_as
ask_as-comes c d head key s keyed there h = each_of (kind_of head (row_for s head (text_of key)) d) h (λ kind. ask_for-comes c d head key kind s keyed there h)

-- the key of its request
pub key_at : (c : Client) (r : Parsed) (key : Key) → c.front ≡ IsRequest r → r.key ≡ Ok key → key_in c.front ≡ Some key
key_at c r key front is = ap key_in front ∙ ap (λ (k : Result Key TargetFault). elim k as (λ x. Option Key) [ Ok q ↦ Some q | Err fault ↦ None ]) is

pub ask_origin-comes : {late : Bool} → (c : Client) (d : Decision) (s : State) → IsIn c s.clients → Holds (Coming late) s → Holds (Coming late) (ask_origin c d s)
unfolding ask_origin
ask_origin-comes {late} c d s there h = by c.front refl
  where
    by_key : (r : Parsed) (k : Result Key TargetFault) → c.front ≡ IsRequest r → r.key ≡ k → Holds (Coming late) (elim k as (λ x. State) [ Ok key ↦ ask_as c d r.head key s | Err fault ↦ s ])
    by_key r (Ok key) front is = ask_as-comes c d r.head key s (key_at c r key front is) there h
    by_key r (Err fault) front is = h

    by : (front : Front) → c.front ≡ front → Holds (Coming late) (elim front as (λ x. State) [
      | NoHeadYet ↦ s
      | NoHead status ↦ s
      | IsRequest r ↦ elim r.key as (λ x. State) [ Ok key ↦ ask_as c d r.head key s | Err fault ↦ s ]
    ])
    by NoHeadYet is = h
    by (NoHead status) is = h
    by (IsRequest r) is = by_key r r.key is refl
