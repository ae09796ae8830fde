-- What goes alone and is not answered yet is somebody's, as followers ask, and where exchanges get their places and connections are dialled
-- and dropped.
use Rattle.std.proofs.Common.{◌≡◌, ◌⊎◌, refl, ℕ, Bool, true, false, not, ◌||◌, List, [], ◌∷◌, ◌++◌, filter, is_some, Option, Some, None, inl, inr, sym, ap, ◌∙◌}
use Rattle.pp_plan.specs.Need.{need}
use Rattle.pp_world.specs.Log.{Log}
use Rattle.pp_law.specs.After.{dialled, dropped, new_conn, out}
use Rattle.pp_law.specs.Closing.{forsake, is_of, is_over, leave, left_alone}
use Rattle.pp_law.specs.Connections.{Pause, AllPlaced, WaitsDial, WaitsDrop, conn, is_client, is_exchange, is_trying, on_client, on_conn, on_exchange, placing, put_on}
use Rattle.pp_law.specs.Deciding.{add_exchange, begin_exchange}
use Rattle.pp_law.specs.Decisions.{fits}
use Rattle.pp_law.specs.Followers.{fill, fill_for, fill_next, fill_span, fill_with, filling_exchange, give_up_asks, hole_of, need_of}
use Rattle.pp_law.specs.Lists.{Bytes, change, is_some_with}
use Rattle.pp_law.specs.Phases.{in_phase}
use Rattle.pp_law.specs.Stages.{bound_in, is_pending}
use Rattle.pp_law.specs.State.{State, AskTooLong, Body, Pending as IsPending, Joining, Relaying, Dropping, Client, Conn, Connecting, Exchange, Instance, Term}
use Rattle.pp_law.specs.Table.{Next, is_brought, next_of}
use Rattle.pp_law.specs.Unseen.{drop_unseen}
use Rattle.pp_laws.specs.Runs.{IsIn}
use Rattle.pp_laws.proofs.Lists.{Changed, in_change, in_filter, in_push, other, same}
use Rattle.pp_laws.proofs.Sound.{source_in}
use Rattle.pp_laws_bounds.proofs.Places.{placing-any}
use Rattle.pp_laws_coming.proofs.Facts.{Early, Follows}
use Rattle.pp_laws_coming.proofs.Filled.{give_up_asks-comes}
use Rattle.pp_laws_coming.proofs.Laws.{coming_on}
use Rattle.pp_laws_coming.proofs.Phases.{early_of}
use Rattle.pp_laws_coming.proofs.Steps.{drop_unseen-comes}
use Rattle.pp_laws_turn.proofs.Cases.{by_front, by_result, each_so, when}
use Rattle.pp_laws_turn.proofs.View.{Holds, View, facts_of, holds}
use Rattle.pp_obeys.specs.Obeys.{Obeys}
use Rattle.pp_laws_left.proofs.BodiesPassed.{fills_none}
use Rattle.pp_laws_left.proofs.Owned.{asker_of}
use Rattle.pp_laws_left.proofs.OwnedPhases.{next_there}
use Rattle.pp_laws_left.proofs.OwnedReplies.{each_client-holds}
use Rattle.pp_comes_law.specs.Lone.{is_lone}
use Rattle.pp_comes_law.proofs.LoneUnseen.{lone_go}
use Rattle.pp_comes_law.proofs.Lones.{pending_of, through_of}

-- ---- what holds

abbrev pub AreOwned : List Exchange → Type 0
AreOwned es = (e : Exchange) → IsIn e es → is_lone e ≡ true → is_some e.asker ≡ true

abbrev pub Whose : View → Type 0
Whose v = AreOwned v.exchanges

-- ---- places

put_on-whose : (n k : ℕ) (s : State) → Holds Whose s → Holds Whose (put_on n k s)
unfolding put_on on_conn on_exchange
put_on-whose n k s h = holds (λ e i left. by e left (in_change (is_exchange n) (λ d. record d { place = Some k; asked = 0 }) e s.exchanges i))
  where
    by : (e : Exchange) → is_lone e ≡ true → Changed (is_exchange n) (λ d. record d { place = Some k; asked = 0 }) s.exchanges e → is_some e.asker ≡ true
    by e left (same j isnt) = facts_of h e j left
    by e left (other d j hit eq) = ap (λ (y : Exchange). is_some y.asker) eq ∙ facts_of h d j (ap is_lone (sym eq) ∙ left)

pub placing-whose : (s : State) → Holds Whose s → Holds Whose (placing s).state
placing-whose s h = placing-any (Holds Whose) put_on-whose s h

pub dialled-whose : (n : ℕ) (host : Bytes) (port : ℕ) (s : State) → Holds Whose s → Holds Whose (dialled n host port (placing s))
unfolding dialled
dialled-whose n host port s h = by (placing s).pause
  where
    by : (pause : Pause) → Holds Whose (elim pause as (λ c. State) [
      | AllPlaced ↦ (placing s).state
      | WaitsDrop k e ↦ (placing s).state
      | WaitsDial e ↦ put_on e.number n (record (placing s).state { conns = (placing s).state.conns ++ new_conn n host port (placing s).state.clock ∷ []; top = n })
    ])
    by AllPlaced = placing-whose s h
    by (WaitsDrop k e) = placing-whose s h
    by (WaitsDial e) = put_on-whose e.number n _ (holds (facts_of (placing-whose s h)))

out-whose : (n : ℕ) (s : State) → Holds Whose s → Holds Whose (out n s)
unfolding out
out-whose n s h = holds (facts_of h)

pub dropped-whose : (n : ℕ) (s : State) → Holds Whose s → Holds Whose (dropped n s)
unfolding dropped
dropped-whose n s h = by (conn s n)
  where
    by : (o : Option Conn) → Holds Whose (elim o as (λ y. State) [ None ↦ s | Some k ↦ elim k.is_closing as (λ z. State) [ true ↦ out n s | false ↦ out n (placing s).state ] ])
    by None = h
    by (Some k) = when k.is_closing (out-whose n s h) (out-whose n _ (placing-whose s h))

-- ---- what followers ask for

-- whose it is follows no row that stands
abbrev pub Spared : View → Type 0
Spared v = (e : Exchange) → IsIn e v.exchanges → is_lone e ≡ true → (m : ℕ) × (e.asker ≡ Some m) × ((c : Client) (x : Instance) → IsIn c v.clients → c.number ≡ m → IsIn x v.instances → Follows x c → ⊥)

unbound : (body : Body) → is_pending body ≡ true → bound_in body ≡ None
unbound IsPending is = refl
unbound Relaying is = absurd (cc is)
unbound Dropping is = absurd (cc is)
unbound (Joining b) is = absurd (cc is)

pub spared_from : (s : State) → Holds Early s → Holds Whose s → Holds Spared s
spared_from s early whose = holds (λ e i lone. by e i lone e.asker refl)
  where
    by : (e : Exchange) → IsIn e s.exchanges → is_lone e ≡ true → (o : Option ℕ) → e.asker ≡ o → (m : ℕ) × (e.asker ≡ Some m) × ((c : Client) (x : Instance) → IsIn c s.clients → c.number ≡ m → IsIn x s.instances → Follows x c → ⊥)
    by e i lone None is = let both : false ≡ true = sym (ap (λ (o : Option ℕ). is_some o) is) ∙ facts_of whose e i lone in absurd (cc both)
    by e i lone (Some m) is = (
      m,
      is,
      λ c x j number l follows.
          let b = ((facts_of early).told e m c i j is number (λ none. cc none)).bound (fills_none e.aim (through_of e lone)) x l follows in
          let both : None ≡ Some b.to = sym (unbound e.body (pending_of e lone)) ∙ b.is in
          cc both,
    )

begun_spared : (a : Exchange) (c : Client) (x : Instance) (s : State) → a.asker ≡ Some c.number → (is_lone a ≡ true → ⊥) → IsIn c s.clients → IsIn x s.instances → Follows x c → Holds Spared s → Holds Spared (begin_exchange a s)
unfolding begin_exchange add_exchange leave forsake
begun_spared a c x s asker none there row follows h = holds (λ e i left. by e left (in_push e (filter (λ d. not (is_over d)) (change (λ d. is_some_with (λ n. is_of n d) a.asker) left_alone s.exchanges)) a i))
  where
    at : (e : Exchange) → is_lone e ≡ true → Changed (λ d. is_some_with (λ n. is_of n d) a.asker) left_alone s.exchanges e → (m : ℕ) × (e.asker ≡ Some m) × ((d : Client) (y : Instance) → IsIn d s.clients → d.number ≡ m → IsIn y s.instances → Follows y d → ⊥)
    at e left (same j isnt) = facts_of h e j left
    at e left (other d j hit eq) =
        let w = facts_of h d j (ap is_lone (sym eq) ∙ left) in
        let its : is_of c.number d ≡ true = sym (ap (λ (o : Option ℕ). is_some_with (λ n. is_of n d) o) asker) ∙ hit in
        let both : Some c.number ≡ Some w.0 = sym (asker_of c.number d.asker its) ∙ w.1 in
        absurd (w.2 c x there (cc both) row follows)

    by : (e : Exchange) → is_lone e ≡ true → IsIn e (filter (λ d. not (is_over d)) (change (λ d. is_some_with (λ n. is_of n d) a.asker) left_alone s.exchanges)) ⊎ (e ≡ a) → (m : ℕ) × (e.asker ≡ Some m) × ((d : Client) (y : Instance) → IsIn d s.clients → d.number ≡ m → IsIn y s.instances → Follows y d → ⊥)
    by e left (inl j) = at e left (in_change (λ d. is_some_with (λ n. is_of n d) a.asker) left_alone e s.exchanges (in_filter (λ d. not (is_over d)) e (change (λ d. is_some_with (λ n. is_of n d) a.asker) left_alone s.exchanges) j).0)
    by e left (inr eq) = absurd (none (ap is_lone (sym eq) ∙ left))

too_long_spared : (n : ℕ) (s : State) → Holds Spared s → Holds Spared (on_client n (λ x. record x { course = AskTooLong }) s)
unfolding on_client
too_long_spared n s h = holds (λ e i left. let w = facts_of h e i left in (w.0, w.1, λ c x j number k follows. by w.0 w.2 c x number k follows (in_change (is_client n) (λ y. record y { course = AskTooLong }) c s.clients j)))
  where
    by : (m : ℕ) → ((c : Client) (x : Instance) → IsIn c s.clients → c.number ≡ m → IsIn x s.instances → Follows x c → ⊥) → (c : Client) (x : Instance) → c.number ≡ m → IsIn x s.instances → Follows x c → Changed (is_client n) (λ y. record y { course = AskTooLong }) s.clients c → ⊥
    by m none c x number k follows (same j isnt) = none c x j number k follows
    by m none c x number k follows (other d j hit eq) = none d x j (ap (λ (y : Client). y.number) (sym eq) ∙ number) k (record { stands = follows.stands; source = ap (λ (y : Client). source_in y.stage) (sym eq) ∙ follows.source })

fill_span-spared : (c : Client) (n : Next) (span : ℕ × ℕ) (s : State) → IsIn c s.clients → IsIn n.source s.instances → Follows n.source c → Holds Spared s → Holds Spared (fill_span c n span s)
unfolding fill_span fill_with
fill_span-spared c n span s there row follows h = by_front c.front h (λ status. h) (λ r. by_result r.key (λ key. when (fits (filling_exchange s c r.head key n span).text) (begun_spared (filling_exchange s c r.head key n span) c n.source s refl (λ lone. cc (through_of (filling_exchange s c r.head key n span) lone)) there row follows h) (too_long_spared c.number s h)) (λ fault. h))

fill_for-spared : (c : Client) (s : State) → IsIn c s.clients → Holds Spared s → Holds Spared (fill_for c s)
unfolding fill_for fill_next
fill_for-spared c s there h =
    when (is_trying c.course)
    (each_so (next_of s c) (λ none. h) (λ n is. let w = next_there s c n is in
    each_so (need_of s n) (λ none. h) (λ span need_is. fill_span-spared c n span s there w.there (record { stands = standing n n.source.is_retired (is_brought s n.source n.at) span need_is; source = w.source }) h))) h
  where
    standing : (n : Next) (retired brought : Bool) (span : ℕ × ℕ) → (elim (retired || brought) as (λ x. Option (ℕ × ℕ)) [ true ↦ None | false ↦ need n.at n.to (hole_of s n) ]) ≡ Some span → retired ≡ false
    standing n true brought span at = absurd (cc at)
    standing n false brought span at = refl

fill-spared : (s : State) → Holds Spared s → Holds Spared (fill s)
unfolding fill
fill-spared s h = when s.is_stopped h (each_client-holds {P = Spared} fill_for (λ c t i ht. fill_for-spared c t i ht) _ s h)

pub fill-whose : (s : State) → Holds Spared s → Holds Whose (fill s)
fill-whose s h = holds (λ e i left. ap (λ (o : Option ℕ). is_some o) ((facts_of (fill-spared s h) e i left).1))

-- where what nobody sees is dropped, and followers ask
pub followed-whose : (terms : List Term) (s : State) (log : Log) → Obeys terms s log → s.is_stopped ≡ false → Holds Whose (fill (give_up_asks (drop_unseen (in_phase Connecting s))))
followed-whose terms s log obeys runs = fill-whose t (spared_from t early (holds (λ e i lone. known e i lone e.place refl)))
  where
    t : State
    t = give_up_asks (drop_unseen (in_phase Connecting s))

    early : Holds Early (give_up_asks (drop_unseen (in_phase Connecting s)))
    early = give_up_asks-comes {late = false} _ (drop_unseen-comes {late = false} _ (holds (facts_of (early_of s (coming_on terms s log obeys)))))

    known : (e : Exchange) → IsIn e t.exchanges → is_lone e ≡ true → (o : Option ℕ) → e.place ≡ o → is_some e.asker ≡ true
    known e i lone (Some k) at = lone_go terms s log obeys runs e i (ap (λ (p : Option ℕ). is_some p) at) lone
    known e i lone None at = nobody e.asker refl
      where
        nobody : (p : Option ℕ) → e.asker ≡ p → is_some e.asker ≡ true
        nobody (Some m) is = ap (λ (q : Option ℕ). is_some q) is
        nobody None is = absurd ((facts_of early).placeless e i (inr (fills_none e.aim (through_of e lone))) at is)
