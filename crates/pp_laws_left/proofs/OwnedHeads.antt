-- Whoever waits for an exchange has it, also behind the head of a response.
use Rattle.std.proofs.Common.{◌≡◌, ◌⊎◌, refl, ℕ, Bool, true, false, not, ◌==◌, ◌&&◌, ◌||◌, List, is_some, Option, Some, None, inl, inr, sym, subst, ap, ◌∙◌}
use Rattle.pp_target.specs.Key.{text_of}
use Rattle.pp_law.specs.Closing.{left_alone}
use Rattle.pp_law.specs.Connections.{anew, attempts_of, charge, give_up_row, is_exchange, is_for, is_unfilled, lose_attempt, lost_one, on_client_of, on_exchange, without_row}
use Rattle.pp_law.specs.Due.{is_told}
use Rattle.pp_law.specs.Lists.{Bytes, change, is_some_with, is_this}
use Rattle.pp_law.specs.OwnHeads.{drop_answer, is_asked_by, key_of, tell, use_body, useless}
use Rattle.pp_law.specs.Stages.{bound_of, filled_of, is_begun, is_headed, is_pending, is_through, passed_of}
use Rattle.pp_law.specs.State.{State, Body, Dropping, Relaying, Brought, Useless, Client, Conn, Exchange, Instance, Passed}
use Rattle.pp_law.specs.Table.{clear, is_row_of, row, swept}
use Rattle.pp_laws.specs.Runs.{IsIn}
use Rattle.pp_laws.proofs.Lists.{Changed, changed_at, in_change, in_filter, in_find, other, same}
use Rattle.pp_laws.proofs.Tests.{number_same, same_number}
use Rattle.pp_laws_bounds.proofs.Counts.{in_map_of}
use Rattle.pp_laws_served.specs.Served.{is_unanswered}
use Rattle.pp_laws_turn.proofs.View.{Holds, facts_of, holds, view}
use Rattle.pp_laws_left.proofs.Keep.{begun_in, passed_in}
use Rattle.pp_laws_left.proofs.Owned.{Owned, is_coming_in}
use Rattle.pp_laws_left.proofs.OwnedAsks.{AreAlike, Stands, Sure, alike_charged, lose_attempt-owned, some_but}
use Rattle.pp_laws_left.proofs.OwnedTold.{Ready, answered_now, told, told_come, with_body}

-- ---- behind a head

-- to a client that has not begun nothing is passed
abbrev pub IsBare : Exchange → List Client → Type 0
IsBare e cs = (c : Client) → IsIn c cs → is_for e c ≡ true → is_begun c ≡ false → passed_of c ≡ None

abbrev pub IsAnswered : Exchange → List Client → Type 0
IsAnswered e cs = (c : Client) → IsIn c cs → is_for e c ≡ true → is_unanswered c ≡ false

-- its body goes somewhere, its client was told, and its row is given up only where nothing is passed to that
pub record Come (conn : Option ℕ) (At : Type 0) (e : Exchange) (ks : List Conn) (s : State) : Type 0 where
  pub owned : Holds (Owned (some_but (Some e.number) conn) At) s
  pub conns_are : s.conns ≡ ks
  pub body : Body
  pub comes : is_pending body ≡ false
  pub alike : AreAlike (with_body body e) s.exchanges
  pub bare : is_some (filled_of e) ≡ true → IsBare e s.clients ⊎ (row s (key_of e) ≡ None)

abbrev pub IsUnbound : Exchange → List Exchange → Type 0
IsUnbound e es = (x : Exchange) → IsIn x es → x.number ≡ e.number → bound_of x ≡ None

-- and it stands as it was, or is bound to nothing
pub record Done (conn : Option ℕ) (At : Type 0) (e : Exchange) (ks : List Conn) (s : State) : Type 0 where
  pub come : Come conn At e ks s
  pub rest : Stands e s.exchanges ⊎ IsUnbound e s.exchanges

pub when_done : {conn : Option ℕ} {At : Type 0} {ks : List Conn} {e : Exchange} (t : Bool) {x y : State} → (t ≡ true → Done conn At e ks x) → (t ≡ false → Done conn At e ks y) → Done conn At e ks (elim t as (λ c. State) [ true ↦ x | false ↦ y ])
when_done true hx hy = hx refl
when_done false hx hy = hy refl

pub sure_come : {conn : Option ℕ} {At : Type 0} {ks : List Conn} (e : Exchange) (s : State) → Come conn At e ks s → Sure e s
sure_come e s d x c found some i its begun = by (d.bare some)
  where
    by : IsBare e s.clients ⊎ (row s (key_of e) ≡ None) → passed_of c ≡ None
    by (inl bare) = bare c i its begun
    by (inr none) = let both : None ≡ Some x = sym none ∙ found in absurd (cc both)

-- ---- told

pub told-done : {conn : Option ℕ} {At : Type 0} {ks : List Conn} (e : Exchange) (b : Brought) (body : Body) (s : State) → is_pending body ≡ false → is_told b ≡ true → ((c : Client) → IsIn c s.clients → is_asked_by e c ≡ true → is_coming_in b ≡ true → body ≡ Relaying) → (is_some (passed_in b) ≡ true) ⊎ (is_through e ≡ false)
    → (is_some (filled_of e) ≡ true → (passed_in b ≡ None) ⊎ (row s (key_of e) ≡ None)) → Holds (Ready conn At e ks) s → Done conn At e ks (tell e b (use_body e body s)) × IsAnswered e (tell e b (use_body e body s)).clients × (passed_in b ≡ None → IsBare e (tell e b (use_body e body s)).clients)
unfolding tell use_body on_exchange
told-done {conn} {At} {ks} e b body s come is_told_ passes through none r = (
  record {
    come = record {
      owned = holds (told_come e b body (view s) come is_told_ passes through (facts_of r));
      conns_are = (facts_of r).conns_are;
      body = body;
      comes = come;
      alike = λ x i number. alike_by x number (in_change (is_exchange e.number) (with_body body) x s.exchanges i);
      bare = λ some. bare_by (none some);
    };
    rest = inl (record {
      now = with_body body e;
      there = subst (λ (y : Exchange). IsIn y (change (is_exchange e.number) (with_body body) s.exchanges)) (ap (λ t. elim t as (λ y. Exchange) [ true ↦ with_body body e | false ↦ e ]) (number_same e.number)) (in_map_of (changed_at (is_exchange e.number) (with_body body)) e s.exchanges (facts_of r).there);
      number = refl;
      asker = refl;
      aim = refl;
    });
  },
  λ c i its. answered_now e b body (view s) come is_told_ passes through (facts_of r) c i its,
  bare,
)
  where
    one : (y : Exchange) → IsIn y s.exchanges → y.number ≡ e.number → y ≡ e
    one y j number = (facts_of r).facts.apart y e j (facts_of r).there number

    alike_by : (x : Exchange) → x.number ≡ e.number → Changed (is_exchange e.number) (with_body body) s.exchanges x → ((n : ℕ) → x.asker ≡ Some n → e.asker ≡ Some n) × (is_headed x ≡ not (is_pending body)) × (x.aim ≡ e.aim) × (x.asked ≡ e.asked) × (x.key ≡ e.key)
    alike_by x number (same j isnt) = let both : true ≡ false = sym (ap (λ m. m == e.number) number ∙ number_same e.number) ∙ isnt in absurd (cc both)
    alike_by x number (other y j hit eq) =
        let is : y ≡ e = one y j (same_number y.number e.number hit) in
        (λ n asks. ap (λ (z : Exchange). z.asker) (sym is) ∙ ap (λ (z : Exchange). z.asker) (sym eq) ∙ asks, ap (λ (z : Exchange). is_headed z) eq, ap (λ (z : Exchange). z.aim) eq ∙ ap (λ (z : Exchange). z.aim) is, ap (λ (z : Exchange). z.asked) eq ∙ ap (λ (z : Exchange). z.asked) is, ap (λ (z : Exchange). z.key) eq ∙ ap (λ (z : Exchange). z.key) is)

    bare : passed_in b ≡ None → IsBare e (change (is_asked_by e) (told b) s.clients)
    bare nothing c i its begun = by (in_change (is_asked_by e) (told b) c s.clients i)
      where
        by : Changed (is_asked_by e) (told b) s.clients c → passed_of c ≡ None
        by (same j isnt) = let both : true ≡ false = sym (ap (λ t. t && not (is_begun c)) its ∙ ap not begun) ∙ isnt in absurd (cc both)
        by (other d j hit eq) = ap (λ (y : Client). passed_of y) eq ∙ nothing

    bare_by : (passed_in b ≡ None) ⊎ (row s (key_of e) ≡ None) → IsBare e (change (is_asked_by e) (told b) s.clients) ⊎ (row s (key_of e) ≡ None)
    bare_by (inl nothing) = inl (bare nothing)
    bare_by (inr gone) = inr gone

-- nothing is passed
pub dropped-done : {conn : Option ℕ} {At : Type 0} {ks : List Conn} (e : Exchange) (b : Brought) (body : Body) (s : State) → is_pending body ≡ false → is_told b ≡ true → passed_in b ≡ None → is_through e ≡ false → Holds (Ready conn At e ks) s
    → Done conn At e ks (tell e b (use_body e body s)) × IsAnswered e (tell e b (use_body e body s)).clients × (passed_in b ≡ None → IsBare e (tell e b (use_body e body s)).clients)
dropped-done e b body s come is_told_ none off r = told-done e b body s come is_told_ (λ c i hit more. let both : false ≡ true = sym (nothing none) ∙ more in absurd (cc both)) (inr off) (λ some. inl none) r
  where
    nothing : passed_in b ≡ None → is_coming_in b ≡ false
    nothing is = ap (λ (o : Option _). is_some_with (λ (p : Passed). not (p.is_short || p.pipe.is_finished)) o) is

-- ---- what that costs

pub record SameTold (d c : Client) : Type 0 where
  pub number : d.number ≡ c.number
  pub stage : d.stage ≡ c.stage
  pub brought : d.brought ≡ c.brought

pub told_from : {P : Client → Type 0} (cs : List Client) (p : Client → Bool) (f : Client → Client) → ((c : Client) → SameTold (f c) c) → ((d c : Client) → SameTold d c → P c → P d) → ((c : Client) → IsIn c cs → P c) → (d : Client) → IsIn d (change p f cs) → P d
told_from {P} cs p f same_ on all d i = by (in_change p f d cs i)
  where
    by : Changed p f cs d → P d
    by (same j isnt) = all d j
    by (other c j hit eq) = subst (λ (x : Client). P x) (sym eq) (on (f c) c (same_ c) (all c j))

pub bare_on : (e : Exchange) (d c : Client) → SameTold d c → (is_for e c ≡ true → is_begun c ≡ false → passed_of c ≡ None) → is_for e d ≡ true → is_begun d ≡ false → passed_of d ≡ None
bare_on e d c w bare its begun = ap passed_in w.brought ∙ bare (ap (λ n. is_this n e.asker) (sym w.number) ∙ its) (ap begun_in (sym w.stage) ∙ begun)

without_row_told : (c : Client) → SameTold (without_row c) c
without_row_told c = by (is_begun c || c.has_given_up)
  where
    by : (t : Bool) → SameTold (elim t as (λ x. Client) [ true ↦ c | false ↦ record c { course = anew c.course; has_given_up = true } ]) c
    by true = record { number = refl; stage = refl; brought = refl }
    by false = record { number = refl; stage = refl; brought = refl }

unbound_left : (e : Exchange) (test : Exchange → Bool) (es : List Exchange) → IsUnbound e es → IsUnbound e (change test left_alone es)
unbound_left e test es none x i number = by (in_change test left_alone x es i)
  where
    by : Changed test left_alone es x → bound_of x ≡ None
    by (same j isnt) = none x j number
    by (other y j hit eq) = ap bound_of eq ∙ none y j (ap (λ (z : Exchange). z.number) (sym eq) ∙ number)

unbound_lost : (e : Exchange) (s : State) → IsUnbound e s.exchanges → IsUnbound e (lose_attempt e s).exchanges
unfolding lose_attempt charge give_up_row clear swept on_client_of on_exchange
unbound_lost e s none = by (is_unfilled (on_client_of e (λ c. record c { course = lost_one (attempts_of e) c.course }) s) e)
  where
    lost : State
    lost = on_client_of e (λ c. record c { course = lost_one (attempts_of e) c.course }) s

    by : (t : Bool) → IsUnbound e (elim t as (λ c. State) [ false ↦ lost | true ↦ on_exchange e.number left_alone (on_client_of e without_row (clear (text_of e.key) lost)) ]).exchanges
    by false = none
    by true = unbound_left e (is_exchange e.number) s.exchanges none

pub bare_lost : (e : Exchange) (s : State) → IsBare e s.clients → IsBare e (lose_attempt e s).clients
unfolding lose_attempt charge give_up_row clear swept on_client_of on_exchange
bare_lost e s bare = by (is_unfilled (on_client_of e (λ c. record c { course = lost_one (attempts_of e) c.course }) s) e)
  where
    lost : State
    lost = on_client_of e (λ c. record c { course = lost_one (attempts_of e) c.course }) s

    first : IsBare e lost.clients
    first = told_from {P = λ c. is_for e c ≡ true → is_begun c ≡ false → passed_of c ≡ None} s.clients (is_for e) (λ c. record c { course = lost_one (attempts_of e) c.course }) (λ c. record { number = refl; stage = refl; brought = refl }) (bare_on e) bare

    by : (t : Bool) → IsBare e (elim t as (λ c. State) [ false ↦ lost | true ↦ on_exchange e.number left_alone (on_client_of e without_row (clear (text_of e.key) lost)) ]).clients
    by false = first
    by true = told_from {P = λ c. is_for e c ≡ true → is_begun c ≡ false → passed_of c ≡ None} lost.clients (is_for e) without_row without_row_told (bare_on e) first

-- a key that was cleared has no row
pub cleared_none : (key : Bytes) (s : State) → row (clear key s) key ≡ None
unfolding clear swept
cleared_none key s = by (row (clear key s) key) refl
  where
    t : State
    t = record s { instances = change (is_row_of key) (λ x. record x { is_retired = true }) s.instances }

    not_row : (x : Instance) → Changed (is_row_of key) (λ y. record y { is_retired = true }) s.instances x → is_row_of key x ≡ true → ⊥
    not_row x (same j isnt) is = let both : true ≡ false = sym is ∙ isnt in cc both
    not_row x (other y j hit eq) is = let both : false ≡ true = sym (ap (is_row_of key) eq) ∙ is in cc both

    by : (o : Option Instance) → row (clear key s) key ≡ o → o ≡ None
    by None is = refl
    by (Some x) is =
        let w = in_find (is_row_of key) x (clear key s).instances is in
        absurd (not_row x (in_change (is_row_of key) (λ y. record y { is_retired = true }) x s.instances (in_filter _ x _ w.0).0) w.1)

pub row_lost : (e : Exchange) (s : State) → row s (key_of e) ≡ None → row (lose_attempt e s) (key_of e) ≡ None
unfolding lose_attempt charge give_up_row on_client_of on_exchange
row_lost e s none = by (is_unfilled (on_client_of e (λ c. record c { course = lost_one (attempts_of e) c.course }) s) e)
  where
    lost : State
    lost = on_client_of e (λ c. record c { course = lost_one (attempts_of e) c.course }) s

    by : (t : Bool) → row (elim t as (λ c. State) [ false ↦ lost | true ↦ on_exchange e.number left_alone (on_client_of e without_row (clear (text_of e.key) lost)) ]) (key_of e) ≡ None
    by false = none
    by true = cleared_none (text_of e.key) lost

pub lost_conns : (e : Exchange) (s : State) → (lose_attempt e s).conns ≡ s.conns
unfolding lose_attempt charge give_up_row clear swept on_client_of on_exchange
lost_conns e s = by (is_unfilled (on_client_of e (λ c. record c { course = lost_one (attempts_of e) c.course }) s) e)
  where
    lost : State
    lost = on_client_of e (λ c. record c { course = lost_one (attempts_of e) c.course }) s

    by : (t : Bool) → (elim t as (λ c. State) [ false ↦ lost | true ↦ on_exchange e.number left_alone (on_client_of e without_row (clear (text_of e.key) lost)) ]).conns ≡ s.conns
    by false = refl
    by true = refl

lost_come : {conn : Option ℕ} {At : Type 0} {ks : List Conn} (e : Exchange) (s : State) → Come conn At e ks s → Stands e s.exchanges → IsBare e s.clients → Come conn At e ks (lose_attempt e s)
unfolding lose_attempt
lost_come e s d stands bare = record {
  owned = lose_attempt-owned e s stands (sure_come e s d) d.owned;
  conns_are = lost_conns e s ∙ d.conns_are;
  body = d.body;
  comes = d.comes;
  alike = alike_charged (lost_one (attempts_of e)) e (with_body d.body e) s d.alike;
  bare = λ some. inl (bare_lost e s bare);
}

pub drop_answer-done : {conn : Option ℕ} {At : Type 0} {ks : List Conn} (e : Exchange) (s : State) → is_through e ≡ false → Holds (Ready conn At e ks) s → Come conn At e ks (drop_answer e s) × Stands e (drop_answer e s).exchanges × IsUnbound e (drop_answer e s).exchanges × IsAnswered e (drop_answer e s).clients × IsBare e (drop_answer e s).clients
unfolding drop_answer tell use_body on_exchange
drop_answer-done {conn} {At} {ks} e s off r = (w.0.come, stands w.0.rest, unbound, w.1, w.2 refl)
  where
    w : Done conn At e ks (tell e Useless (use_body e Dropping s)) × IsAnswered e (tell e Useless (use_body e Dropping s)).clients × (passed_in Useless ≡ None → IsBare e (tell e Useless (use_body e Dropping s)).clients)
    w = dropped-done e Useless Dropping s refl refl refl off r

    unbound : IsUnbound e (change (is_exchange e.number) (with_body Dropping) s.exchanges)
    unbound x i number = by (in_change (is_exchange e.number) (with_body Dropping) x s.exchanges i)
      where
        by : Changed (is_exchange e.number) (with_body Dropping) s.exchanges x → bound_of x ≡ None
        by (same j isnt) = let both : true ≡ false = sym (ap (λ m. m == e.number) number ∙ number_same e.number) ∙ isnt in absurd (cc both)
        by (other y j hit eq) = ap bound_of eq

    now : Stands e (change (is_exchange e.number) (with_body Dropping) s.exchanges)
    now = record {
      now = with_body Dropping e;
      there = subst (λ (y : Exchange). IsIn y (change (is_exchange e.number) (with_body Dropping) s.exchanges)) (ap (λ t. elim t as (λ y. Exchange) [ true ↦ with_body Dropping e | false ↦ e ]) (number_same e.number)) (in_map_of (changed_at (is_exchange e.number) (with_body Dropping)) e s.exchanges (facts_of r).there);
      number = refl;
      asker = refl;
      aim = refl;
    }

    stands : Stands e (change (is_exchange e.number) (with_body Dropping) s.exchanges) ⊎ IsUnbound e (change (is_exchange e.number) (with_body Dropping) s.exchanges) → Stands e (change (is_exchange e.number) (with_body Dropping) s.exchanges)
    stands rest = now

pub useless-done : {conn : Option ℕ} {At : Type 0} {ks : List Conn} (e : Exchange) (s : State) → is_through e ≡ false → Holds (Ready conn At e ks) s → Done conn At e ks (useless e s)
unfolding useless
useless-done e s off r = let w = drop_answer-done e s off r in record { come = lost_come e (drop_answer e s) w.0 w.1 w.4; rest = inr (unbound_lost e (drop_answer e s) w.2) }
