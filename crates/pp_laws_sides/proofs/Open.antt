-- The connections that are open in a log are those of each state that it goes on as from.
use Rattle.std.proofs.Common.{◌≡◌, ◌⊎◌, refl, ℕ, ◌≤◌, ◌<◌, Bool, true, false, not, ◌&&◌, ◌||◌, List, [], ◌∷◌, ◌++◌, map, length, inl, inr, ap, ap₂, ◌∙◌, sym, subst, le_refl, arith}
use Rattle.std.proofs.lemmas.List.{append-nil, append_assoc}
use Rattle.std.specs.List.{list_any}
use Rattle.pp_world.proofs.LogLemmas.{side_of-push}
use Rattle.pp_world.specs.Connections.{side_after, side_of}
use Rattle.pp_world.specs.Log.{Log}
use Rattle.pp_world.specs.declared.happening.Happening.TheVariants.{Woke, Waits, Clock, Opened, CanRead, CanWrite, Heard, HungUp, Said, Shut, Dialled, Undialled, Reached, Ended, Broke, Asked, Got, Dropped, NoneYet, Began, Did, Unread, Noted, Rooted, Listed, Listens, Configured, Printed, Stopped}
use Rattle.pp_world.specs.declared.happening.Happening.{Happening}
use Rattle.pp_law.proofs.Prefixes.{front_from}
use Rattle.pp_law.specs.After.{after}
use Rattle.pp_law.specs.Connections.{Pause, AllPlaced, WaitsDial, WaitsDrop, is_client, is_conn, placing}
use Rattle.pp_law.specs.Lawful.{Lawful}
use Rattle.pp_law.specs.Lists.{has_number}
use Rattle.pp_law.specs.Opening.{is_at}
use Rattle.pp_law.specs.Permits.{IsPermitted, gives_way, is_drop_of, is_new_number, is_permitted, may_drop, may_shut, permits, permits_dial}
use Rattle.pp_law.specs.Phases.{come_to, has_closings, is_done, next}
use Rattle.pp_law.specs.State.{State, Term, start, Connecting, Exchange}
use Rattle.pp_laws.proofs.Sound.{Since, Sound, client_number, conn_number, facts_of as sound_facts}
use Rattle.pp_laws.proofs.Tests.{below, first_holds, same_number, second_holds}
use Rattle.pp_laws.specs.Runs.{IsIn, state_after}
use Rattle.pp_laws_bounds.proofs.Counts.{length-map}
use Rattle.pp_laws_bounds.proofs.Places.{drop_idle, placing-paused}
use Rattle.pp_laws_ends.proofs.Apart.{numbers_apart}
use Rattle.pp_laws_ends.specs.Ends.{AreApart}
use Rattle.pp_laws_pool.proofs.Along.{Next, after_all-append, back_from}
use Rattle.pp_laws_pool.proofs.View.{Holds, holds, facts_of}
use Rattle.pp_laws_sides.proofs.Happenings.{after-named, names_after, new_so, unhampered}
use Rattle.pp_laws_sides.proofs.Names.{Named, Names, names_of}
use Rattle.pp_laws_sides.proofs.Numbers.{IsApartIn, after_sides, has_in, has_none, in_has, side_named, side_of_name}
use Rattle.pp_laws_sides.proofs.Turns.{come_to-named, next-named, placed-named}
use Rattle.pp_laws_sides.specs.Sides.{SidesAreTheLaws, side_by}
use Rattle.pp_laws_turn.proofs.Lifts.{asks_on, obeying, sound_on}
use Rattle.pp_obeys.specs.Obeys.{Obeys}

-- ---- one happening behind the other, beside the log

abbrev pub LogSteps : (Log → State → Type 0) → Type 0
LogSteps P = (terms : List Term) (front : Log) (h : Happening) → Next terms front h → P front (state_after terms front) → P (front ++ h ∷ []) (after (state_after terms front) h)

pub along_from : (P : Log → State → Type 0) → LogSteps P → (terms : List Term) (front log : Log) → Lawful terms (front ++ log) → P front (state_after terms front) → P (front ++ log) (state_after terms (front ++ log))
along_from P step terms front [] lawful now = subst (λ (l : Log). P l (state_after terms l)) (sym (append-nil front)) now
along_from P step terms front (h ∷ log) lawful now =
    let joined : (front ++ h ∷ []) ++ log ≡ front ++ h ∷ log = append_assoc front (h ∷ []) log in
    let whole : Lawful terms ((front ++ h ∷ []) ++ log) = subst (λ (l : Log). Lawful terms l) (sym joined) lawful in
    let next : Next terms front h = record { lawful = front_from (start terms) (front ++ h ∷ []) log whole; permitted = (back_from (start terms) front (h ∷ log) lawful).0 } in
    let then : P (front ++ h ∷ []) (state_after terms (front ++ h ∷ [])) = subst (λ (t : State). P (front ++ h ∷ []) t) (sym (after_all-append (start terms) front (h ∷ []))) (step terms front h next now) in
    subst (λ (l : Log). P l (state_after terms l)) joined (along_from P step terms (front ++ h ∷ []) log whole then)

pub along_log : (P : Log → State → Type 0) → ((terms : List Term) → P [] (start terms)) → LogSteps P → (terms : List Term) (log : Log) → Lawful terms log → P log (state_after terms log)
along_log P first step terms log lawful = along_from P step terms [] log lawful (first terms)

-- it goes on as from the state that it leads to
pub at_its_end : (terms : List Term) (log : Log) → Lawful terms log → Obeys terms (state_after terms log) log
at_its_end terms log lawful = record { lawful = lawful; goes = record { phases = 0; done = tt; there = refl } }

-- ---- who is there

self : (s : State) → Holds (Named (names_of s) s.next_exchange) s
self s = holds (record { clients_are = refl; conns_are = refl; few = le_refl s.next_exchange })

any_in : {A : Type 0} (p : A → Bool) (xs : List A) → list_any p xs ≡ true → (x : A) × IsIn x xs × (p x ≡ true)
any_in p [] is = absurd (cc is)
any_in {A} p (x ∷ xs) is = by (p x) refl is (λ rest. any_in p xs rest)
  where
    by : (b : Bool) → p x ≡ b → (b || list_any p xs) ≡ true → (list_any p xs ≡ true → (y : A) × IsIn y xs × (p y ≡ true)) → (y : A) × IsIn y (x ∷ xs) × (p y ≡ true)
    by true at has rest = (x, inl refl, at)
    by false at has rest = let r = rest has in (r.0, inr r.1, r.2)

chosen : (t u : Bool) → (elim t as (λ c. Bool) [ true ↦ u | false ↦ false ]) ≡ true → u ≡ true
chosen true u is = is
chosen false u is = absurd (cc is)

-- that client is there
shut_so : (s : State) (n : ℕ) → IsPermitted s (Shut n) → list_any (may_shut (come_to Connecting s) n) (come_to Connecting s).clients ≡ true
unfolding is_permitted permits
shut_so s n is = chosen (is_at Connecting (come_to Connecting s)) (list_any (may_shut (come_to Connecting s) n) (come_to Connecting s).clients) (unhampered s.made_room_for _ is)

shut_there : (s : State) (n : ℕ) → IsPermitted s (Shut n) → has_number n (map client_number s.clients) ≡ true
shut_there s n is =
    let t : State = come_to Connecting s in
    let w = any_in (may_shut t n) t.clients (shut_so s n is) in
    let number : w.0.number ≡ n = same_number w.0.number n (first_holds (is_client n w.0) (w.0.is_closing || t.is_stopped) w.2) in
    subst (λ (ns : List ℕ). has_number n ns ≡ true) (facts_of (come_to-named Connecting s (self s))).clients_are (in_has client_number n t.clients w.0 w.1 number)

-- that connection is there
dropped_so : (s : State) (n : ℕ) → IsPermitted s (Dropped n) → may_drop (come_to Connecting s) n ≡ true
unfolding is_permitted permits
dropped_so s n is = chosen (is_at Connecting (come_to Connecting s)) (may_drop (come_to Connecting s) n) (unhampered s.made_room_for _ is)

drop_of : (pause : Pause) (n : ℕ) → is_drop_of pause n ≡ true → (e : Exchange) × (pause ≡ WaitsDrop n e)
drop_of AllPlaced n is = absurd (cc is)
drop_of (WaitsDial e) n is = absurd (cc is)
drop_of (WaitsDrop k e) n is = (e, ap (λ m. WaitsDrop m e) (same_number k n is))

either : (a b : Bool) → (a || b) ≡ true → (a ≡ true) ⊎ (b ≡ true)
either true b is = inl refl
either false b is = inr is

dropped_there : (s : State) (n : ℕ) → IsPermitted s (Dropped n) → has_number n (map conn_number s.conns) ≡ true
dropped_there s n is = by (either (list_any (λ k. is_conn n k && (k.is_closing || there.is_stopped)) there.conns) (gives_way there n) (dropped_so s n is))
  where
    there : State
    there = come_to Connecting s

    by : (list_any (λ k. is_conn n k && (k.is_closing || there.is_stopped)) there.conns ≡ true) ⊎ (gives_way there n ≡ true) → has_number n (map conn_number s.conns) ≡ true
    by (inl any) =
        let w = any_in (λ k. is_conn n k && (k.is_closing || there.is_stopped)) there.conns any in
        let number : w.0.number ≡ n = same_number w.0.number n (first_holds (is_conn n w.0) (w.0.is_closing || there.is_stopped) w.2) in
        subst (λ (ns : List ℕ). has_number n ns ≡ true) (facts_of (come_to-named Connecting s (self s))).conns_are (in_has conn_number n there.conns w.0 w.1 number)
    by (inr way) =
        let w = drop_of (placing there).pause n (second_holds (not (has_closings there)) (is_drop_of (placing there).pause n) way) in
        let idle = drop_idle (placing there).state w.0 n ((placing-paused there).drop n w.0 w.1) in
        subst (λ (ns : List ℕ). has_number n ns ≡ true) (facts_of (placed-named Connecting s (self s))).conns_are (in_has conn_number n (placing there).state.conns idle.conn idle.there idle.number)

-- ---- and who is not

no_conn : (s : State) (n : ℕ) → AreApart s → has_number n (map client_number s.clients) ≡ true → has_number n (map conn_number s.conns) ≡ false
no_conn s n apart is =
    let w = has_in client_number n s.clients is in
    has_none conn_number n s.conns (λ k i number. apart w.0 k w.1 i (w.2 ∙ sym number))

no_client : (s : State) (n : ℕ) → AreApart s → has_number n (map conn_number s.conns) ≡ true → has_number n (map client_number s.clients) ≡ false
no_client s n apart is =
    let w = has_in conn_number n s.conns is in
    has_none client_number n s.clients (λ c i number. apart c w.0 i w.1 (number ∙ sym w.2))

not_given : (a b c : ℕ) → a ≤ b → b < c → a ≡ c → ⊥
not_given a b c le lt is = omega arith

new_client_no : {b : Since} (s : State) (n : ℕ) (host : List ℕ) (port : ℕ) → Sound b s → IsPermitted s (Dialled n host port) → has_number n (map client_number s.clients) ≡ false
new_client_no s n host port so is =
    has_none client_number n s.clients (λ c i number. not_given c.number s.top n ((sound_facts so).callers.given c i) (below s.top n (first_holds (is_new_number s n) (permits_dial s host port) (new_so s n host port is))) number)

apart_in : {b : Since} (s : State) (h : Happening) → Sound b s → AreApart s → IsPermitted s h → IsApartIn h (names_of s)
apart_in s (Dialled n host port) so apart is = new_client_no s n host port so is
apart_in s (Shut n) so apart is = no_conn s n apart (shut_there s n is)
apart_in s (Dropped n) so apart is = no_client s n apart (dropped_there s n is)
apart_in s (Woke image) so apart is = tt
apart_in s (Opened m) so apart is = tt
apart_in s (Waits w) so apart is = tt
apart_in s (Clock seconds) so apart is = tt
apart_in s (CanRead m) so apart is = tt
apart_in s (CanWrite m) so apart is = tt
apart_in s (Heard c bytes) so apart is = tt
apart_in s (HungUp c) so apart is = tt
apart_in s (Said c offered bytes) so apart is = tt
apart_in s (Undialled host port) so apart is = tt
apart_in s (Reached m) so apart is = tt
apart_in s (Ended m) so apart is = tt
apart_in s (Broke m) so apart is = tt
apart_in s (Asked m bytes) so apart is = tt
apart_in s (Got m bytes) so apart is = tt
apart_in s (NoneYet m) so apart is = tt
apart_in s (Began op) so apart is = tt
apart_in s (Did op ok) so apart is = tt
apart_in s (Unread name) so apart is = tt
apart_in s (Noted remark) so apart is = tt
apart_in s (Rooted folder) so apart is = tt
apart_in s (Listed ok) so apart is = tt
apart_in s (Listens port ok) so apart is = tt
apart_in s (Configured file text) so apart is = tt
apart_in s (Printed text) so apart is = tt
apart_in s Stopped so apart is = tt

-- ---- at each moment

pub few_names : (terms : List Term) (s : State) (log : Log) → Obeys terms s log → length (names_of s).clients ≤ 256
few_names terms s log obeys = subst (λ n. n ≤ 256) (sym (length-map client_number s.clients)) (facts_of (asks_on terms s log obeys)).few_clients

abbrev HasSides : Log → State → Type 0
HasSides log s = (n : ℕ) → side_of n log ≡ side_of_name n (names_of s)

started : (terms : List Term) → HasSides [] (start terms)
unfolding side_of
started terms n = refl

named_so : (s : State) (o : Names) (n : ℕ) → map client_number s.clients ≡ o.clients → map conn_number s.conns ≡ o.conns → side_of_name n (names_of s) ≡ side_of_name n o
named_so s o n clients conns = ap₂ (λ (cs ks : List ℕ). side_by (has_number n cs) (has_number n ks)) clients conns

stepped : LogSteps HasSides
stepped terms front h next was n =
    let s : State = state_after terms front in
    let obeys : Obeys terms s front = at_its_end terms front (front_from (start terms) front (h ∷ []) next.lawful) in
    let then = facts_of (after-named s h next.permitted (few_names terms s front obeys) (self s)) in
    side_of-push n front h ∙ ap (λ side. side_after n side h) (was n)
    ∙ sym (after_sides n (names_of s) h (apart_in s h (sound_on terms s front obeys) (numbers_apart terms s front obeys) next.permitted))
    ∙ sym (named_so (after s h) (names_after h (names_of s)) n then.clients_are then.conns_are)

-- the numbers, some phases on
abbrev pub HasNames : Names → State → Type 0
HasNames o s = (map client_number s.clients ≡ o.clients) × (map conn_number s.conns ≡ o.conns)

stays_named : (o : Names) (s : State) → is_done s ≡ true → HasNames o s → HasNames o (next s)
stays_named o s done h =
    let was : Holds (Named o s.next_exchange) s = holds (record { clients_are = h.0; conns_are = h.1; few = le_refl s.next_exchange }) in
    let then = facts_of (next-named s was) in (then.clients_are, then.conns_are)

pub sides_are : SidesAreTheLaws
sides_are terms s log obeys n =
    let r : State = state_after terms log in
    let names : HasNames (names_of r) s = obeying (HasNames (names_of r)) (stays_named (names_of r)) terms s log obeys (refl, refl) in
    along_log HasSides started stepped terms log obeys.lawful n ∙ sym (named_so s (names_of r) n names.0 names.1) ∙ sym (side_named s n)
