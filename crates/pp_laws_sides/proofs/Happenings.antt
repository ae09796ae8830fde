-- What each happening changes of the numbers of clients and of connections; and it begins few exchanges.
use Rattle.std.proofs.Common.{◌≡◌, refl, ℕ, ◌+◌, ◌*◌, ◌≤◌, Bool, true, false, not, ◌==◌, ◌&&◌, List, [], ◌∷◌, ◌++◌, map, filter, find, cond, length, Option, Some, None, ap, ◌∙◌, sym, le_refl, zero-le, arith}
use Rattle.std.proofs.lemmas.List.{map-append}
use Rattle.pp_world.specs.Files.{Files}
use Rattle.pp_world.specs.declared.happening.Happening.TheVariants.{Woke, Waits, Clock, Opened, CanRead, CanWrite, Heard, HungUp, Said, Shut, Dialled, Undialled, Reached, Ended, Broke, Asked, Got, Dropped, NoneYet, Began, Did, Unread, Noted, Rooted, Listed, Listens, Configured, Printed, Stopped}
use Rattle.pp_world.specs.declared.happening.Happening.{Happening}
use Rattle.pp_world.specs.declared.note.Remark.TheVariants.{Taken, Cut, Kept, Gone, Forgotten, Evicted, Loaded}
use Rattle.pp_world.specs.declared.note.Remark.{Remark}
use Rattle.pp_law.specs.After.{after, changed, dialled, dropped, new_client, new_conn, noted, opened, out, shut, undialled}
use Rattle.pp_law.specs.Closing.{close_client}
use Rattle.pp_law.specs.Connections.{Pause, AllPlaced, WaitsDial, WaitsDrop, Placement, conn, placing, put_on}
use Rattle.pp_law.specs.Lists.{Bytes}
use Rattle.pp_law.specs.Opening.{is_at, woken}
use Rattle.pp_law.specs.Permits.{IsPermitted, is_dial_of, is_new_number, is_permitted, may_dial, permits, permits_dial}
use Rattle.pp_law.specs.Phases.{come_to, has_closings}
use Rattle.pp_law.specs.State.{State, Term, start, Connecting, Evicting, Keeping, ReadOf, WriteTo, IsRooted, IsListed, IsListening, Conn}
use Rattle.pp_laws.proofs.Sound.{client_number, conn_number}
use Rattle.pp_laws.proofs.Tests.{second_holds}
use Rattle.pp_laws_pool.proofs.View.{Holds, holds, facts_of, view}
use Rattle.pp_laws_pool.proofs.WalkCases.{by_pause}
use Rattle.pp_laws_pool.proofs.WalkClients.{ask-keeps, close_client-keeps, end_replies-keeps, hang_up-keeps, hear-keeps}
use Rattle.pp_laws_pool.proofs.WalkDisk.{note_gone-keeps, note_kept-keeps}
use Rattle.pp_laws_pool.proofs.WalkExchanges.{lose_attempt-keeps}
use Rattle.pp_laws_pool.proofs.WalkSteps.{placing-keeps, rested-keeps, tick-keeps}
use Rattle.pp_laws_sides.proofs.Got.{got-named}
use Rattle.pp_laws_sides.proofs.Names.{Named, Names, named_places, named_walk, raise}
use Rattle.pp_laws_sides.proofs.Steps.{begun-named, configured-named, ended_op-named, event-named, evicted-named, gone-named, load-named, opened_to-named, owing-named, paid-named, reached-named, said-named, unread-named}
use Rattle.pp_laws_sides.proofs.Turns.{begun_op-named, come_to-named, deciding-named, ending-named, forgotten_by-named, placed-named, refused_dial-named, take_decision-named}
use Rattle.pp_law.specs.Turn.{rest_with}
use Rattle.pp_world.specs.declared.event.Wants.{Wants}

-- ---- numbers

abbrev pub but : ℕ → List ℕ → List ℕ
but n ns = filter (λ m. not (m == n)) ns

abbrev pub names_after : Happening → Names → Names
names_after (Woke image) o = record { clients = []; conns = [] }
names_after (Opened n) o = record { clients = o.clients ++ n ∷ []; conns = o.conns }
names_after (Dialled n host port) o = record { clients = o.clients; conns = o.conns ++ n ∷ [] }
names_after (Shut n) o = record { clients = but n o.clients; conns = o.conns }
names_after (Dropped n) o = record { clients = o.clients; conns = but n o.conns }
names_after h o = o

filtered : {A : Type 0} (num : A → ℕ) (n : ℕ) (xs : List A) → map num (filter (λ x. not (num x == n)) xs) ≡ but n (map num xs)
filtered num n [] = refl
filtered num n (x ∷ xs) = by (not (num x == n)) (filtered num n xs)
  where
    by : (b : Bool) → map num (filter (λ y. not (num y == n)) xs) ≡ but n (map num xs) → map num (cond b (x ∷ filter (λ y. not (num y == n)) xs) (filter (λ y. not (num y == n)) xs)) ≡ cond b (num x ∷ but n (map num xs)) (but n (map num xs))
    by true rest = ap (λ (ns : List ℕ). num x ∷ ns) rest
    by false rest = rest

-- none has it
absent : {A : Type 0} (num : A → ℕ) (n : ℕ) (xs : List A) → find (λ x. num x == n) xs ≡ None → but n (map num xs) ≡ map num xs
absent num n [] none = refl
absent num n (x ∷ xs) none = by (num x == n) none (λ rest. absent num n xs rest)
  where
    by : (b : Bool) → cond b (Some x) (find (λ y. num y == n) xs) ≡ None → (find (λ y. num y == n) xs ≡ None → but n (map num xs) ≡ map num xs) → cond (not b) (num x ∷ but n (map num xs)) (but n (map num xs)) ≡ num x ∷ map num xs
    by true is rest = absurd (cc is)
    by false is rest = ap (λ (ns : List ℕ). num x ∷ ns) (rest is)

-- ---- those that change them

opened-named : {o : Names} {m : ℕ} (n : ℕ) (s : State) → Holds (Named o m) s → Holds (Named (record { clients = o.clients ++ n ∷ []; conns = o.conns }) m) (opened n s)
unfolding opened
opened-named n s h = holds (record {
  clients_are = map-append client_number s.clients (new_client n s.clock ∷ []) ∙ ap (λ (ns : List ℕ). ns ++ n ∷ []) (facts_of h).clients_are;
  conns_are = (facts_of h).conns_are;
  few = (facts_of h).few;
})

shut-named : {o : Names} {m : ℕ} (n : ℕ) (s : State) → Holds (Named o m) s → Holds (Named (record { clients = but n o.clients; conns = o.conns }) m) (shut n s)
unfolding shut
shut-named {o} {m} n s h = holds (record {
  clients_are = filtered client_number n (close_client n false s).clients ∙ ap (but n) closed.clients_are;
  conns_are = closed.conns_are;
  few = closed.few;
})
  where
    closed : Named o m (view (close_client n false s))
    closed = facts_of (close_client-keeps (named_walk _ _) n false s h)

dialled-named : {o : Names} {m : ℕ} (n : ℕ) (host : Bytes) (port : ℕ) (p : Placement) → is_dial_of p.pause host port ≡ true → Holds (Named o m) p.state → Holds (Named (record { clients = o.clients; conns = o.conns ++ n ∷ [] }) m) (dialled n host port p)
unfolding dialled
dialled-named {o} {m} n host port p is h = by p.pause is
  where
    added : Holds (Named (record { clients = o.clients; conns = o.conns ++ n ∷ [] }) m) (record p.state { conns = p.state.conns ++ new_conn n host port p.state.clock ∷ []; top = n })
    added = holds (record {
      clients_are = (facts_of h).clients_are;
      conns_are = map-append conn_number p.state.conns (new_conn n host port p.state.clock ∷ []) ∙ ap (λ (ns : List ℕ). ns ++ n ∷ []) (facts_of h).conns_are;
      few = (facts_of h).few;
    })

    by : (pause : Pause) → is_dial_of pause host port ≡ true → Holds (Named (record { clients = o.clients; conns = o.conns ++ n ∷ [] }) m) (elim pause as (λ c. State) [
      | AllPlaced ↦ p.state
      | WaitsDrop k e ↦ p.state
      | WaitsDial e ↦ put_on e.number n (record p.state { conns = p.state.conns ++ new_conn n host port p.state.clock ∷ []; top = n })
    ])
    by AllPlaced dials = absurd (cc dials)
    by (WaitsDrop k e) dials = absurd (cc dials)
    by (WaitsDial e) dials = holds (named_places _ _ e.number n _ (facts_of added))

undialled-named : {o : Names} {m : ℕ} (p : Placement) → Holds (Named o m) p.state → Holds (Named o (m + length o.clients)) (undialled p)
unfolding undialled
undialled-named {o} {m} p h = by_pause p.pause (still p.state h) (λ k e. still p.state h) (λ e. refused_dial-named e _ (lose_attempt-keeps (named_walk _ _) e _ (holds (facts_of h))))
  where
    still : (s : State) → Holds (Named o m) s → Holds (Named o (m + length o.clients)) s
    still s was = raise m (m + length o.clients) s (omega arith) was

out-named : {o : Names} {m : ℕ} (n : ℕ) (s : State) → Holds (Named o m) s → Holds (Named (record { clients = o.clients; conns = but n o.conns }) m) (out n s)
unfolding out
out-named n s h = holds (record { clients_are = (facts_of h).clients_are; conns_are = filtered conn_number n s.conns ∙ ap (but n) (facts_of h).conns_are; few = (facts_of h).few })

dropped-named : {o : Names} {m : ℕ} (n : ℕ) (s : State) → Holds (Named o m) s → Holds (Named (record { clients = o.clients; conns = but n o.conns }) m) (dropped n s)
unfolding dropped
dropped-named {o} {m} n s h = by (conn s n) refl
  where
    none : conn s n ≡ None → Holds (Named (record { clients = o.clients; conns = but n o.conns }) m) s
    none is = holds (record { clients_are = (facts_of h).clients_are; conns_are = sym (absent conn_number n s.conns is) ∙ ap (but n) (facts_of h).conns_are; few = (facts_of h).few })

    at : (b : Bool) → Holds (Named (record { clients = o.clients; conns = but n o.conns }) m) (elim b as (λ c. State) [ true ↦ out n s | false ↦ out n (placing s).state ])
    at true = out-named n s h
    at false = out-named n (placing s).state (placing-keeps (named_places _ _) s h)

    by : (found : Option Conn) → conn s n ≡ found → Holds (Named (record { clients = o.clients; conns = but n o.conns }) m) (elim found as (λ c. State) [ None ↦ s | Some k ↦ elim k.is_closing as (λ c. State) [ true ↦ out n s | false ↦ out n (placing s).state ] ])
    by None is = none is
    by (Some k) is = at k.is_closing

-- a life begins with none
pub start-named : (terms : List Term) → Holds (Named (record { clients = []; conns = [] }) 0) (start terms)
start-named terms = holds (record { clients_are = refl; conns_are = refl; few = le_refl 0 })

woken-named : (m : ℕ) (image : Files) (s : State) → Holds (Named (record { clients = []; conns = [] }) m) (woken image s)
unfolding woken
woken-named m image s = begun-named _ (holds (record { clients_are = refl; conns_are = refl; few = zero-le }))

rest_with-named : {o : Names} {m : ℕ} (w : Wants) (s : State) → Holds (Named o m) s → Holds (Named o m) (rest_with w s)
unfolding rest_with
rest_with-named w s h = holds (rested-keeps (named_walk _ _) w s h)

-- ---- what is permitted

chosen : (t u : Bool) → (elim t as (λ c. Bool) [ true ↦ u | false ↦ false ]) ≡ true → u ≡ true
chosen true u is = is
chosen false u is = absurd (cc is)

pub unhampered : (made : Option ℕ) (t : Bool) → (elim made as (λ c. Bool) [ Some who ↦ false | None ↦ t ]) ≡ true → t ≡ true
unhampered (Some who) t is = absurd (cc is)
unhampered None t is = is

third_holds : (a b c : Bool) → (not a && not b && c) ≡ true → c ≡ true
third_holds true b c is = absurd (cc is)
third_holds false true c is = absurd (cc is)
third_holds false false c is = is

pub dials_so : (s : State) (host : Bytes) (port : ℕ) → permits_dial s host port ≡ true → is_dial_of (placing (come_to Connecting s)).pause host port ≡ true
dials_so s host port is =
    let t : State = come_to Connecting s in
    third_holds t.is_stopped (has_closings t) (is_dial_of (placing t).pause host port) (chosen (is_at Connecting t) (may_dial t host port) is)

pub new_so : (s : State) (n : ℕ) (host : Bytes) (port : ℕ) → IsPermitted s (Dialled n host port) → (is_new_number s n && permits_dial s host port) ≡ true
unfolding is_permitted permits
new_so s n host port is = unhampered s.made_room_for (is_new_number s n && permits_dial s host port) is

-- ---- all

late : {o : Names} (m : ℕ) (s : State) → Holds (Named o m) s → Holds (Named o (m + 4096)) s
late m s h = raise m (m + 4096) s (omega arith) h

far : {o : Names} (m l : ℕ) (s : State) → l ≤ 256 → Holds (Named o (m + 7 * l)) s → Holds (Named o (m + 4096)) s
far m l s few h = raise (m + 7 * l) (m + 4096) s (omega arith) h

farther : {o : Names} (m l : ℕ) (s : State) → l ≤ 256 → Holds (Named o (m + 7 * l + l)) s → Holds (Named o (m + 4096)) s
farther m l s few h = raise (m + 7 * l + l) (m + 4096) s (omega arith) h

one_farther : {o : Names} (m l : ℕ) (s : State) → l ≤ 256 → Holds (Named o (m + 7 * l + 1)) s → Holds (Named o (m + 4096)) s
one_farther m l s few h = raise (m + 7 * l + 1) (m + 4096) s (omega arith) h

noted-named : {o : Names} {m : ℕ} (remark : Remark) (s : State) → length o.clients ≤ 256 → Holds (Named o m) s → Holds (Named o (m + 4096)) (noted remark s)
unfolding noted
noted-named {o} {m} (Taken c i d) s few h = one_farther m (length o.clients) _ few (take_decision-named c d _ (deciding-named s h))
noted-named {o} {m} (Cut c cause) s few h = far m (length o.clients) _ few (close_client-keeps (named_walk _ _) c true _ (deciding-named s h))
noted-named {o} {m} (Kept key tag n extent) s few h = late m _ (note_kept-keeps key extent s h)
noted-named {o} {m} (Gone key) s few h = far m (length o.clients) _ few (note_gone-keeps key _ (come_to-named Keeping s h))
noted-named {o} {m} (Forgotten key) s few h = far m (length o.clients) _ few (forgotten_by-named key s h)
noted-named {o} {m} (Evicted key tag n i) s few h = far m (length o.clients) _ few (evicted-named _ (come_to-named Evicting s h))
noted-named {o} {m} (Loaded key tag n i) s few h = late m _ (load-named key i s h)

pub after-named : {o : Names} {m : ℕ} (s : State) (h : Happening) → IsPermitted s h → length o.clients ≤ 256 → Holds (Named o m) s → Holds (Named (names_after h o) (m + 4096)) (after s h)
unfolding changed
after-named {o} {m} s (Woke image) is few h = woken-named (m + 4096) image s
after-named {o} {m} s (Waits w) is few h = far m (length o.clients) _ few (rest_with-named w _ (ending-named s h))
after-named {o} {m} s (Clock seconds) is few h = late m _ (event-named _ (tick-keeps (named_walk _ _) seconds s h))
after-named {o} {m} s (Opened n) is few h = late m _ (event-named _ (opened-named n s h))
after-named {o} {m} s (CanRead n) is few h = late m _ (owing-named (ReadOf n) n s h)
after-named {o} {m} s (CanWrite n) is few h = late m _ (owing-named (WriteTo n) n s h)
after-named {o} {m} s (Heard c bytes) is few h = late m _ (paid-named _ (hear-keeps (named_walk _ _) c bytes s h))
after-named {o} {m} s (HungUp c) is few h = late m _ (paid-named _ (hang_up-keeps (named_walk _ _) c s h))
after-named {o} {m} s (Said c offered bytes) is few h = late m _ (paid-named _ (said-named c (length bytes) s h))
after-named {o} {m} s (Shut c) is few h = far m (length o.clients) _ few (shut-named c _ (come_to-named Connecting s h))
after-named {o} {m} s (Dialled n host port) is few h =
    far m (length o.clients) _ few (dialled-named n host port (placing (come_to Connecting s)) (dials_so s host port (second_holds (is_new_number s n) (permits_dial s host port) (new_so s n host port is))) (placed-named Connecting s h))
after-named {o} {m} s (Undialled host port) is few h = farther m (length o.clients) _ few (undialled-named (placing (come_to Connecting s)) (placed-named Connecting s h))
after-named {o} {m} s (Reached n) is few h = late m _ (event-named _ (reached-named n s h))
after-named {o} {m} s (Ended n) is few h = late m _ (paid-named _ (gone-named true n s h))
after-named {o} {m} s (Broke n) is few h = late m _ (paid-named _ (gone-named false n _ (event-named s h)))
after-named {o} {m} s (Asked n bytes) is few h = late m _ (paid-named _ (ask-keeps (named_walk _ _) n (length bytes) s h))
after-named {o} {m} s (Got n bytes) is few h = late m _ (paid-named _ (end_replies-keeps (named_walk _ _) _ (got-named (length bytes) n bytes s h)))
after-named {o} {m} s (Dropped n) is few h = far m (length o.clients) _ few (dropped-named n _ (come_to-named Connecting s h))
after-named {o} {m} s (NoneYet n) is few h = late m _ (paid-named s h)
after-named {o} {m} s (Began op) is few h = far m (length o.clients) _ few (begun_op-named op s h)
after-named {o} {m} s (Did op ok) is few h = late m _ (ended_op-named op ok s h)
after-named {o} {m} s (Unread name) is few h = late m _ (unread-named name s h)
after-named {o} {m} s (Noted remark) is few h = noted-named remark s few h
after-named {o} {m} s (Rooted folder) is few h = late m _ (opened_to-named IsRooted true s h)
after-named {o} {m} s (Listed ok) is few h = late m _ (opened_to-named IsListed ok s h)
after-named {o} {m} s (Listens port ok) is few h = late m _ (opened_to-named IsListening ok s h)
after-named {o} {m} s (Configured file text) is few h = late m _ (configured-named text s h)
after-named {o} {m} s (Printed text) is few h = late m s h
after-named {o} {m} s Stopped is few h = late m _ (event-named _ (holds (facts_of h)))
