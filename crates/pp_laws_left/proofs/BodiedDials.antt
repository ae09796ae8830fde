-- An exchange that has more of a body to ask is somebody's, also where a dial is refused, and where a client is shut that is closing.
use Rattle.std.proofs.Common.{◌≡◌, refl, ℕ, ◌+◌, ◌==◌, Bool, true, false, ◌||◌, List, [], ◌∷◌, map, filter, cond, is_some, Option, inl, inr, sym, subst, ap, ◌∙◌}
use Rattle.pp_valid.specs.declared.version.Version.{Version}
use Rattle.pp_world.specs.Log.{Log}
use Rattle.pp_law.specs.After.{refused_dial, shut, undialled}
use Rattle.pp_law.specs.Closing.{close_client, exchanges_of, is_of, leave_one, left_alone}
use Rattle.pp_law.specs.Connections.{Pause, AllPlaced, WaitsDial, WaitsDrop, each_exchange, is_client, is_exchange, lose_attempt, may_ask_again, on_client, placing}
use Rattle.pp_law.specs.Lists.{change}
use Rattle.pp_law.specs.Stages.{filled_of, is_through}
use Rattle.pp_law.specs.State.{State, Aim, Through, Own, Filling, Client, Exchange, Term}
use Rattle.pp_law.specs.Table.{swept}
use Rattle.pp_laws.specs.Runs.{IsIn}
use Rattle.pp_laws.proofs.Lists.{Changed, in_change, in_filter, in_find, other, same}
use Rattle.pp_laws.proofs.Tests.{same_number}
use Rattle.pp_laws_coming.proofs.Attempts.{alike, alike_left, lose_attempt-comes}
use Rattle.pp_laws_coming.proofs.Clients.{end_exchange-comes}
use Rattle.pp_laws_coming.proofs.Facts.{Early}
use Rattle.pp_laws_coming.proofs.Laws.{coming_on}
use Rattle.pp_laws_coming.proofs.Phases.{early_of}
use Rattle.pp_laws_coming.proofs.Steps.{placing-comes}
use Rattle.pp_laws_turn.proofs.Cases.{when_so}
use Rattle.pp_laws_turn.proofs.Laws.{sound_turns}
use Rattle.pp_laws_turn.proofs.View.{Holds, View, facts_of, holds}
use Rattle.pp_obeys.specs.Obeys.{Obeys}
use Rattle.pp_laws_left.specs.Bodies.{is_awaited}
use Rattle.pp_laws_left.proofs.Bodied.{Suits, Tame, end_exchange-suits, lose_attempt-suits}
use Rattle.pp_laws_left.proofs.BodiedChoices.{placing-fit}
use Rattle.pp_laws_left.proofs.BodiedFits.{Fit}
use Rattle.pp_laws_left.proofs.BodiedLate.{Known, Whose, fill-whose, placing-whose, spared_from}
use Rattle.pp_laws_left.proofs.BodiesPassed.{fills_none}
use Rattle.pp_laws_left.proofs.Keep.{AtEvent}
use Rattle.pp_laws_left.proofs.Owned.{asker_of}
use Rattle.pp_laws_left.proofs.OwnedEnds.{owned_on}
use Rattle.pp_laws_left.proofs.OwnedPlaces.{PlacedAt, placing-placed}

-- ---- what had more of a body to ask, before an attempt is lost

record Held (T : ℕ → Type 0) (e : Exchange) : Type 0 where
  its : (e.body_left == 0) ≡ false → T e.number
  through : T e.number → is_through e ≡ true
  asker : T e.number → is_some e.asker ≡ true
  awaited : T e.number → is_awaited e.body ≡ true

abbrev AreHeld : (ℕ → Type 0) → View → Type 0
AreHeld T v = (e : Exchange) → IsIn e v.exchanges → Held T e

abbrev IsThrough : (ℕ → Type 0) → Exchange → Type 0
IsThrough T e = T e.number → is_through e ≡ true

held_tame : {T : ℕ → Type 0} (d e : Exchange) → Tame d e → Held T e → Held T d
held_tame {T} d e w h = record {
  its = λ left. subst T (sym w.number) (h.its (w.left left));
  through = λ t. ap (λ (a : Aim). elim a as (λ x. Bool) [ Through ↦ true | Own ↦ false | Filling v from to ↦ false ]) w.aim ∙ h.through (subst T w.number t);
  asker = λ t. ap (λ (o : Option ℕ). is_some o) w.asker ∙ h.asker (subst T w.number t);
  awaited = λ t. w.awaited (h.awaited (subst T w.number t));
}

held_changed : {T : ℕ → Type 0} (p : Exchange → Bool) (f : Exchange → Exchange) (es : List Exchange) → ((e : Exchange) → p e ≡ true → Held T e → Held T (f e)) → ((e : Exchange) → IsIn e es → Held T e) → (d : Exchange) → IsIn d (change p f es) → Held T d
held_changed {T} p f es kept h d i = by (in_change p f d es i)
  where
    by : Changed p f es d → Held T d
    by (same j isnt) = h d j
    by (other e j hit eq) = subst (λ (x : Exchange). Held T x) (sym eq) (kept e hit (h e j))

-- one that fills a hole is none of these
held_alone : {T : ℕ → Type 0} (e x : Exchange) → IsThrough T e → is_some (filled_of e) ≡ true → x.number ≡ e.number → Held T x → Held T (left_alone x)
held_alone {T} e x known some number h = record {
  its = λ left. absurd (never (h.its left));
  through = λ t. absurd (never t);
  asker = λ t. absurd (never t);
  awaited = λ t. absurd (never t);
}
  where
    never : T x.number → ⊥
    never t = let both : false ≡ true = sym (ap (λ (o : Option Version). is_some o) (fills_none e.aim (known (subst T number t)))) ∙ some in cc both

held_suits : (T : ℕ → Type 0) → Suits (IsThrough T) (AreHeld T)
held_suits T = record {
  clients = λ f kept v h. h;
  conns = λ ks v h. h;
  rows = λ xs next v from h. h;
  asks = λ p f tame v h. held_changed p f v.exchanges (λ e hit held. held_tame (f e) e (tame e hit) held) h;
  over = λ test v h. (λ e i. h e (in_filter test e v.exchanges i).0);
  alone = λ e known some v h. held_changed (is_exchange e.number) left_alone v.exchanges (λ x hit held. held_alone e x known some (same_number x.number e.number hit) held) h;
  known = λ e v i h. (h e i).through;
}

known_of : {T : ℕ → Type 0} (s : State) → Holds (AreHeld T) s → (e : Exchange) → IsIn e s.exchanges → (e.body_left == 0) ≡ false → Known e
known_of s h e i left = let w = facts_of h e i in record { through = w.through (w.its left); awaited = w.awaited (w.its left); asker = w.asker (w.its left) }

-- ---- a dial that is refused

refused-whose : (e : Exchange) (s : State) → IsIn e s.exchanges → Holds Early s → ((x : Exchange) → IsIn x s.exchanges → (x.body_left == 0) ≡ false → Known x) → Holds Whose (refused_dial e (lose_attempt e s))
unfolding refused_dial
refused-whose e s there early known = when_so (may_ask_again (lose_attempt e s) e.number) (λ may. holds (λ x i left. (known_of (lose_attempt e s) lost x i left).asker)) (λ isnt. fill-whose _ (spared_from _ (end_exchange-comes e.number (lose_attempt e s) (lose_attempt-comes {late = false} e s (alike_left e s.exchanges (alike {late = false} e s there early)) early)) (known_of _ (end_exchange-suits (held_suits Had) e.number _ lost))))
  where
    Had : ℕ → Type 0
    Had n = (d : Exchange) × IsIn d s.exchanges × (d.number ≡ n) × ((d.body_left == 0) ≡ false)

    had : (x : Exchange) → IsIn x s.exchanges → (t : Had x.number) → Known x
    had x i t = subst (λ (y : Exchange). Known y) ((facts_of early).apart t.0 x t.1 i t.2) (known t.0 t.1 t.3)

    first : Holds (AreHeld Had) s
    first = holds (λ x i. record { its = λ left. (x, i, refl, left); through = λ t. (had x i t).through; asker = λ t. (had x i t).asker; awaited = λ t. (had x i t).awaited })

    lost : Holds (AreHeld Had) (lose_attempt e s)
    lost = lose_attempt-suits (held_suits Had) e s (facts_of first e there).through first

pub undialled-whose : (terms : List Term) (s : State) (log : Log) → Obeys terms s log → Holds Fit s → Holds Whose s → Holds Whose (undialled (placing s))
unfolding undialled
undialled-whose terms s log obeys fit whose = by (placing s).pause refl
  where
    p : PlacedAt (AtEvent s.phase s.owed) s (placing s)
    p = placing-placed s (owned_on terms s log obeys)

    early : Holds Early (placing s).state
    early = placing-comes {late = false} s (early_of s (coming_on terms s log obeys))

    known : (x : Exchange) → IsIn x (placing s).state.exchanges → (x.body_left == 0) ≡ false → Known x
    known x i left = record { through = ((facts_of p.owned).plain x i).through left; awaited = facts_of (placing-fit s fit) x i left; asker = facts_of (placing-whose s whose) x i left }

    by : (pause : Pause) → (placing s).pause ≡ pause → Holds Whose (elim pause as (λ c. State) [
      | AllPlaced ↦ (placing s).state
      | WaitsDrop k e ↦ (placing s).state
      | WaitsDial e ↦ refused_dial e (lose_attempt e (record (placing s).state { failures = (placing s).state.failures + 1 }))
    ])
    by AllPlaced is = placing-whose s whose
    by (WaitsDrop k e) is = placing-whose s whose
    by (WaitsDial e) is = refused-whose e (record (placing s).state { failures = (placing s).state.failures + 1 }) (p.dials e is).0 (holds (facts_of early)) known

-- ---- who is shut asks nothing

none_of : (n : ℕ) (es : List Exchange) → ((e : Exchange) → IsIn e es → is_of n e ≡ true → ⊥) → filter (is_of n) es ≡ []
none_of n [] none = refl
none_of n (e ∷ es) none = by (is_of n e) refl (none_of n es (λ d i. none d (inr i)))
  where
    by : (b : Bool) → is_of n e ≡ b → filter (is_of n) es ≡ [] → cond b (e ∷ filter (is_of n) es) (filter (is_of n) es) ≡ []
    by true on rest = absurd (none e (inl refl) on)
    by false off rest = rest

closed_asks : (n : ℕ) (s : State) → exchanges_of n s ≡ [] → (close_client n false s).exchanges ≡ s.exchanges
unfolding close_client on_client each_exchange swept
closed_asks n s none = ap (λ (ns : List ℕ). (swept (each_exchange leave_one ns (record s { clients = change (is_client n) (λ c. record c { is_closing = true; is_cut = c.is_cut || false }) s.clients }))).exchanges) none

pub shut-whose : (terms : List Term) (s : State) (log : Log) → Obeys terms s log → (n : ℕ) → ((c : Client) → IsIn c s.clients → c.number ≡ n → c.is_closing ≡ true) → Holds Whose s → Holds Whose (shut n s)
unfolding shut
shut-whose terms s log obeys n closing h = holds (subst (λ (es : List Exchange). (e : Exchange) → IsIn e es → (e.body_left == 0) ≡ false → is_some e.asker ≡ true) (sym (closed_asks n s (ap (λ es. map (λ (e : Exchange). e.number) es) (none_of n s.exchanges never)))) (facts_of h))
  where
    never : (e : Exchange) → IsIn e s.exchanges → is_of n e ≡ true → ⊥
    never e i its =
        let a = (sound_turns terms s log obeys).askers e n i (asker_of n e.asker its) in
        let w = in_find (is_client n) a.asker s.clients a.there in
        let both : true ≡ false = sym (closing a.asker w.0 (same_number a.asker.number n w.1)) ∙ a.going in
        cc both
