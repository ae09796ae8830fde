-- What goes alone and is not answered yet is somebody's, also where a dial is refused, and where a client is shut that is closing.
use Rattle.std.proofs.Common.{◌≡◌, ◌⊎◌, refl, ℕ, ◌+◌, Bool, true, false, not, ◌&&◌, ◌||◌, List, [], ◌∷◌, map, filter, cond, is_some, Option, Some, None, inl, inr, sym, subst, ap, ◌∙◌}
use Rattle.pp_valid.specs.declared.version.Version.{Version}
use Rattle.pp_world.specs.Log.{Log}
use Rattle.pp_law.specs.After.{refused_dial, shut, undialled}
use Rattle.pp_law.specs.Closing.{close_client, exchanges_of, is_of, leave_one, left_alone}
use Rattle.pp_law.specs.Connections.{Pause, AllPlaced, WaitsDial, WaitsDrop, attempts_of, charge, each_exchange, end_exchange, give_up_row, is_client, is_exchange, is_for, is_out, is_unfilled, lose_attempt, lost_one, may_ask_again, on_client, on_client_of, on_exchange, placing}
use Rattle.std.specs.List.{list_any}
use Rattle.pp_target.specs.Key.{text_of}
use Rattle.pp_law.specs.Lists.{change, is_some_with}
use Rattle.pp_law.specs.Stages.{filled_of, is_through}
use Rattle.pp_law.specs.State.{State, Client, Exchange, Term}
use Rattle.pp_law.specs.Table.{clear, is_same_version, row, swept}
use Rattle.pp_laws.specs.Runs.{IsIn}
use Rattle.pp_laws.proofs.Lists.{Changed, in_change, in_filter, in_find, other, same}
use Rattle.pp_laws.proofs.Tests.{same_number}
use Rattle.pp_laws_coming.proofs.Attempts.{alike, alike_left, lose_attempt-comes}
use Rattle.pp_laws_coming.proofs.Clients.{end_exchange-comes}
use Rattle.pp_laws_coming.proofs.Facts.{Early}
use Rattle.pp_laws_coming.proofs.Laws.{coming_on}
use Rattle.pp_laws_coming.proofs.Phases.{early_of}
use Rattle.pp_laws_coming.proofs.Steps.{placing-comes}
use Rattle.pp_laws_turn.proofs.Cases.{when_so}
use Rattle.pp_laws_turn.proofs.Laws.{sound_turns}
use Rattle.pp_laws_turn.proofs.View.{Holds, View, facts_of, holds}
use Rattle.pp_obeys.specs.Obeys.{Obeys}
use Rattle.pp_laws_left.proofs.BodiesPassed.{fills_none}
use Rattle.pp_laws_left.proofs.Keep.{AtEvent}
use Rattle.pp_laws_left.proofs.Owned.{asker_of}
use Rattle.pp_laws_left.proofs.OwnedEnds.{owned_on}
use Rattle.pp_laws_left.proofs.OwnedPlaces.{PlacedAt, placing-placed}
use Rattle.pp_comes_law.specs.Lone.{is_lone}
use Rattle.pp_comes_law.proofs.LoneLate.{Whose, fill-whose, placing-whose, spared_from}
use Rattle.pp_comes_law.proofs.Lones.{through_of}

-- ---- a dial that is refused

-- where an attempt is lost, exchanges stay, but one that filled a hole may be nobody's
record LostAs (e : Exchange) (s : State) (v : View) : Type 0 where
  way : (v.exchanges ≡ s.exchanges) ⊎ ((v.exchanges ≡ change (is_exchange e.number) left_alone s.exchanges) × (is_some (filled_of e) ≡ true))

unfilled_some : (s : State) (e : Exchange) → is_unfilled s e ≡ true → is_some (filled_of e) ≡ true
unfilled_some s e is = by (filled_of e) is
  where
    by : (o : Option Version) → (is_some_with (λ v. is_some_with (λ x. is_same_version v x.version) (row s (text_of e.key))) o && list_any (λ c. is_for e c && is_out c.course) s.clients) ≡ true → is_some o ≡ true
    by None at = absurd (cc at)
    by (Some v) at = refl

given_up : (e : Exchange) (s : State) → Holds (LostAs e s) (give_up_row e s)
unfolding give_up_row on_exchange on_client_of clear swept
given_up e s = when_so (is_unfilled s e) (λ is. holds (record { way = inr (refl, unfilled_some s e is) })) (λ isnt. holds (record { way = inl refl }))

lost_as : (e : Exchange) (s : State) → Holds (LostAs e s) (lose_attempt e s)
unfolding lose_attempt charge on_client_of
lost_as e s = let w = facts_of (given_up e (on_client_of e (λ c. record c { course = lost_one (attempts_of e) c.course }) s)) in holds (record { way = w.way })

lost-whose : (e : Exchange) (s : State) → IsIn e s.exchanges → Holds Early s → Holds Whose s → Holds Whose (lose_attempt e s)
lost-whose e s there early h = holds (λ x i lone. by (facts_of (lost_as e s)).way x i lone)
  where
    by : ((lose_attempt e s).exchanges ≡ s.exchanges) ⊎ (((lose_attempt e s).exchanges ≡ change (is_exchange e.number) left_alone s.exchanges) × (is_some (filled_of e) ≡ true)) → (x : Exchange) → IsIn x (lose_attempt e s).exchanges → is_lone x ≡ true → is_some x.asker ≡ true
    by (inl same_) x i lone = facts_of h x (subst (λ (es : List Exchange). IsIn x es) same_ i) lone
    by (inr set) x i lone = at x lone (in_change (is_exchange e.number) left_alone x s.exchanges (subst (λ (es : List Exchange). IsIn x es) set.0 i))
      where
        at : (x : Exchange) → is_lone x ≡ true → Changed (is_exchange e.number) left_alone s.exchanges x → is_some x.asker ≡ true
        at x lone (same j isnt) = facts_of h x j lone
        at x lone (other d j hit eq) =
            let one : d ≡ e = (facts_of early).apart d e j there (same_number d.number e.number hit) in
            let through : is_through e ≡ true = ap (λ (y : Exchange). is_through y) (sym one) ∙ through_of d (ap is_lone (sym eq) ∙ lone) in
            let both : false ≡ true = sym (ap (λ (o : Option Version). is_some o) (fills_none e.aim through)) ∙ set.1 in
            absurd (cc both)

ended-whose : (n : ℕ) (s : State) → Holds Whose s → Holds Whose (end_exchange n s)
unfolding end_exchange
ended-whose n s h = holds (λ x i lone. facts_of h x (in_filter (λ d. not (is_exchange n d)) x s.exchanges i).0 lone)

refused-whose : (e : Exchange) (s : State) → IsIn e s.exchanges → Holds Early s → Holds Whose s → Holds Whose (refused_dial e (lose_attempt e s))
unfolding refused_dial
refused-whose e s there early h = when_so (may_ask_again (lose_attempt e s) e.number) (λ may. lost) (λ isnt. fill-whose _ (spared_from _ (end_exchange-comes e.number (lose_attempt e s) (lose_attempt-comes {late = false} e s (alike_left e s.exchanges (alike {late = false} e s there early)) early)) (ended-whose e.number _ lost)))
  where
    lost : Holds Whose (lose_attempt e s)
    lost = lost-whose e s there early h

pub undialled-whose : (terms : List Term) (s : State) (log : Log) → Obeys terms s log → Holds Whose s → Holds Whose (undialled (placing s))
unfolding undialled
undialled-whose terms s log obeys whose = by (placing s).pause refl
  where
    p : PlacedAt (AtEvent s.phase s.owed) s (placing s)
    p = placing-placed s (owned_on terms s log obeys)

    early : Holds Early (placing s).state
    early = placing-comes {late = false} s (early_of s (coming_on terms s log obeys))

    by : (pause : Pause) → (placing s).pause ≡ pause → Holds Whose (elim pause as (λ c. State) [
      | AllPlaced ↦ (placing s).state
      | WaitsDrop k e ↦ (placing s).state
      | WaitsDial e ↦ refused_dial e (lose_attempt e (record (placing s).state { failures = (placing s).state.failures + 1 }))
    ])
    by AllPlaced is = placing-whose s whose
    by (WaitsDrop k e) is = placing-whose s whose
    by (WaitsDial e) is = refused-whose e (record (placing s).state { failures = (placing s).state.failures + 1 }) (p.dials e is).0 (holds (facts_of early)) (holds (facts_of (placing-whose s whose)))

-- ---- who is shut asks nothing

none_of : (n : ℕ) (es : List Exchange) → ((e : Exchange) → IsIn e es → is_of n e ≡ true → ⊥) → filter (is_of n) es ≡ []
none_of n [] none = refl
none_of n (e ∷ es) none = by (is_of n e) refl (none_of n es (λ d i. none d (inr i)))
  where
    by : (b : Bool) → is_of n e ≡ b → filter (is_of n) es ≡ [] → cond b (e ∷ filter (is_of n) es) (filter (is_of n) es) ≡ []
    by true on rest = absurd (none e (inl refl) on)
    by false off rest = rest

closed_asks : (n : ℕ) (s : State) → exchanges_of n s ≡ [] → (close_client n false s).exchanges ≡ s.exchanges
unfolding close_client on_client each_exchange swept
closed_asks n s none = ap (λ (ns : List ℕ). (swept (each_exchange leave_one ns (record s { clients = change (is_client n) (λ c. record c { is_closing = true; is_cut = c.is_cut || false }) s.clients }))).exchanges) none

pub shut-whose : (terms : List Term) (s : State) (log : Log) → Obeys terms s log → (n : ℕ) → ((c : Client) → IsIn c s.clients → c.number ≡ n → c.is_closing ≡ true) → Holds Whose s → Holds Whose (shut n s)
unfolding shut
shut-whose terms s log obeys n closing h = holds (subst (λ (es : List Exchange). (e : Exchange) → IsIn e es → is_lone e ≡ true → is_some e.asker ≡ true) (sym (closed_asks n s (ap (λ es. map (λ (e : Exchange). e.number) es) (none_of n s.exchanges never)))) (facts_of h))
  where
    never : (e : Exchange) → IsIn e s.exchanges → is_of n e ≡ true → ⊥
    never e i its =
        let a = (sound_turns terms s log obeys).askers e n i (asker_of n e.asker its) in
        let w = in_find (is_client n) a.asker s.clients a.there in
        let both : true ≡ false = sym (closing a.asker w.0 (same_number a.asker.number n w.1)) ∙ a.going in
        cc both
