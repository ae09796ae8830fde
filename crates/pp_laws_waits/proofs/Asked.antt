-- A decision that is answered by what is known begins no exchange.
use Rattle.std.proofs.Common.{◌≡◌, refl, ℕ, Bool, true, false, not, ◌&&◌, List, [], Option, Some, None, subst, ap, ◌∙◌, arith}
use Rattle.pp_target.specs.Key.{text_of}
use Rattle.pp_world.specs.declared.happening.Happening.TheVariants.{Noted}
use Rattle.pp_world.specs.declared.note.Decision.TheVariants.{Refuse, Hit, Part, Head, NotModified, Unsatisfiable, Relay, Validate, Fetch, Pass}
use Rattle.pp_world.specs.declared.note.Decision.{Decision}
use Rattle.pp_world.specs.declared.note.Remark.TheVariants.{Taken}
use Rattle.pp_law.specs.After.{after, changed, noted, take_decision}
use Rattle.pp_law.specs.Closing.{forsake, is_of, is_over, leave, left_alone}
use Rattle.pp_law.specs.Connections.{client, on_client}
use Rattle.pp_law.specs.Deciding.{answering_with, decided, decided_by, enter_row, follow, follow_row, follow_with, is_for_memory, mark_row_of, refuse, refused_with, relay, reply_by, serves}
use Rattle.pp_law.specs.Lists.{change, Bytes}
use Rattle.pp_law.specs.Phases.{deciding}
use Rattle.pp_law.specs.Replies.{regained}
use Rattle.pp_law.specs.Requests.{key_in}
use Rattle.pp_law.specs.State.{State, Client, Exchange, Instance, Reply}
use Rattle.pp_law.specs.Table.{add_row, enter, forget, forget_row, mark_row, row, swept, with_room}
use Rattle.pp_laws.specs.Runs.{IsIn}
use Rattle.pp_laws.proofs.Lists.{Changed, in_change, in_filter, other, same}
use Rattle.pp_laws_waits.specs.Held.{WasThere, asks_nothing}

-- each exchange that is there was there
abbrev pub NoneNew : State → State → Type 0
NoneNew s t = (e : Exchange) → IsIn e t.exchanges → WasThere e s

none_new : (s t : State) → t.exchanges ≡ s.exchanges → NoneNew s t
none_new s t is e i = (e, subst (λ es. IsIn e es) is i, refl)

leave-none_new : (test : Exchange → Bool) (s t : State) → NoneNew s t → NoneNew s (leave test t)
unfolding leave forsake
leave-none_new test s t none e i = by (in_change test left_alone e t.exchanges (in_filter (λ d. not (is_over d)) e (change test left_alone t.exchanges) i).0)
  where
    by : Changed test left_alone t.exchanges e → WasThere e s
    by (same j isnt) = none e j
    by (other d j hit eq) = let r = none d j in (r.0, r.1, ap (λ (x : Exchange). x.number) eq ∙ r.2)

-- what changes no exchange begins none
new_by : (s t u : State) → u.exchanges ≡ t.exchanges → NoneNew s t → NoneNew s u
new_by s t u is none e i = none e (subst (λ es. IsIn e es) is i)

same_when : (es : List Exchange) (t : Bool) (x y : State) → x.exchanges ≡ es → y.exchanges ≡ es → (elim t as (λ c. State) [ true ↦ x | false ↦ y ]).exchanges ≡ es
same_when es true x y hx hy = hx
same_when es false x y hx hy = hy

same_each : {A : Type 0} (es : List Exchange) (o : Option A) (x : State) (y : A → State) → x.exchanges ≡ es → ((a : A) → (y a).exchanges ≡ es) → (elim o as (λ c. State) [ None ↦ x | Some a ↦ y a ]).exchanges ≡ es
same_each es None x y hx hy = hx
same_each es (Some a) x y hx hy = hy a

swept-same : (s : State) → (swept s).exchanges ≡ s.exchanges
unfolding swept
swept-same s = refl

on_client-same : (n : ℕ) (f : Client → Client) (s : State) → (on_client n f s).exchanges ≡ s.exchanges
unfolding on_client
on_client-same n f s = refl

refuse-none_new : (c : Client) (status : ℕ) (s : State) → NoneNew s (refuse c status s)
unfolding refuse
refuse-none_new c status s =
    let t : State = on_client c.number (refused_with status) s in
    new_by s (leave (is_of c.number) t) (swept (leave (is_of c.number) t)) (swept-same (leave (is_of c.number) t)) (leave-none_new (is_of c.number) s t (none_new s t (on_client-same c.number (refused_with status) s)))

none_each : {A : Type 0} (s : State) (o : Option A) (y : A → State) → ((a : A) → NoneNew s (y a)) → NoneNew s (elim o as (λ c. State) [ None ↦ s | Some a ↦ y a ])
none_each s None y hy = none_new s s refl
none_each s (Some a) y hy = hy a

follow_with-none_new : (c : Client) (r : Reply) (x : Instance) (s : State) → NoneNew s (follow_with c r x s)
unfolding follow_with
follow_with-none_new c r x s =
    let t : State = on_client c.number (answering_with r) s in
    let u : State = leave (λ e. is_of c.number e && not (serves x r e)) t in
    new_by s u (swept u) (swept-same u) (leave-none_new (λ e. is_of c.number e && not (serves x r e)) s t (none_new s t (on_client-same c.number (answering_with r) s)))

follow_row-none_new : (c : Client) (d : Decision) (key : Bytes) (s : State) → NoneNew s (follow_row c d key s)
unfolding follow_row
follow_row-none_new c d key s = none_each s (row s key) (λ x. follow_with c (reply_by d (Some x.id)) x s) (λ x. follow_with-none_new c (reply_by d (Some x.id)) x s)

follow-none_new : (c : Client) (d : Decision) (s : State) → NoneNew s (follow c d s)
unfolding follow
follow-none_new c d s = none_each s (key_in c.front) (λ key. follow_row c d (text_of key) s) (λ key. follow_row-none_new c d (text_of key) s)

relay-none_new : (c : Client) (s : State) → NoneNew s (relay c s)
unfolding relay
relay-none_new c s =
    let t : State = on_client c.number (answering_with (reply_by Relay None)) s in
    new_by s t (swept t) (swept-same t) (none_new s t (on_client-same c.number (answering_with (reply_by Relay None)) s))

decided_by-none_new : (c : Client) (d : Decision) (s : State) → asks_nothing d ≡ true → NoneNew s (decided_by c d s)
unfolding decided_by
decided_by-none_new c (Refuse status) s is = refuse-none_new c status s
decided_by-none_new c (Hit from to) s is = follow-none_new c (Hit from to) s
decided_by-none_new c (Part from to) s is = follow-none_new c (Part from to) s
decided_by-none_new c Head s is = follow-none_new c Head s
decided_by-none_new c NotModified s is = follow-none_new c NotModified s
decided_by-none_new c Unsatisfiable s is = follow-none_new c Unsatisfiable s
decided_by-none_new c Relay s is = relay-none_new c s
decided_by-none_new c Validate s is = absurd (cc is)
decided_by-none_new c Fetch s is = absurd (cc is)
decided_by-none_new c Pass s is = absurd (cc is)

mark_row_of-same : (key : Bytes) (s : State) → (mark_row_of key s).exchanges ≡ s.exchanges
unfolding mark_row_of mark_row
mark_row_of-same key s = same_each s.exchanges (row s key) _ _ refl (λ x. refl)

enter-same : (key : Bytes) (is_new : Bool) (s : State) → (enter key is_new s).exchanges ≡ s.exchanges
unfolding enter add_row with_room forget_row forget
enter-same key is_new s = grind arith

enter_row-same : (c : Client) (d : Decision) (s : State) → (enter_row c d s).exchanges ≡ s.exchanges
unfolding enter_row
enter_row-same c d s =
    same_when s.exchanges (is_for_memory d) _ _ refl (same_each s.exchanges (key_in c.front) _ _ refl (λ key. mark_row_of-same (text_of key) (enter (text_of key) false s) ∙ enter-same (text_of key) false s))

decided-none_new : (c : Client) (d : Decision) (s : State) → asks_nothing d ≡ true → NoneNew s (decided c d s)
unfolding decided
decided-none_new c d s is e i = let r = decided_by-none_new c d (enter_row c d s) is e i in (r.0, subst (λ es. IsIn r.0 es) (enter_row-same c d s) r.1, r.2)

regained-same : (s : State) → (regained s).exchanges ≡ s.exchanges
unfolding regained
regained-same s = refl

pub taken-none_new : (s : State) (n i : ℕ) (d : Decision) → asks_nothing d ≡ true → NoneNew (deciding s) (after s (Noted (Taken n i d)))
unfolding changed noted take_decision
taken-none_new s n i d is = none_each (deciding s) (client (deciding s) n) (λ c. regained (record (decided c d (deciding s)) { forgotten = []; has_made_room = None })) by
  where
    by : (c : Client) → NoneNew (deciding s) (regained (record (decided c d (deciding s)) { forgotten = []; has_made_room = None }))
    by c = new_by (deciding s) (decided c d (deciding s)) (regained (record (decided c d (deciding s)) { forgotten = []; has_made_room = None })) (regained-same (record (decided c d (deciding s)) { forgotten = []; has_made_room = None })) (decided-none_new c d (deciding s) is)
