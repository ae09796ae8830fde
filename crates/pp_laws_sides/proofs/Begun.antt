-- What followers ask for begins at most one exchange for each client, and a decision at most one.
use Rattle.std.proofs.Common.{refl, ℕ, ◌+◌, ◌≤◌, false, not, ◌&&◌, List, [], ◌∷◌, map, length, Some, None, ap, subst, arith}
use Rattle.pp_ask.specs.declared.kind.AskKind.{AskKind}
use Rattle.pp_head.specs.Request.{Request}
use Rattle.pp_target.specs.Key.{Key, text_of}
use Rattle.pp_world.specs.declared.note.Decision.{Decision}
use Rattle.pp_world.specs.declared.note.Decision.TheVariants.{Refuse, Hit, Part, Head, NotModified, Unsatisfiable, Relay, Validate, Fetch, Pass}
use Rattle.pp_law.specs.Closing.{forsake, is_of, leave}
use Rattle.pp_law.specs.Connections.{client, each_client, is_trying}
use Rattle.pp_law.specs.Deciding.{add_exchange, answering_with, ask_as, ask_for, ask_origin, asking_with, begin_exchange, decided, decided_by, enter_row, follow, follow_row, follow_with, is_for_memory, mark_row_of, new_exchange, refuse, refused_with, relay, reply_by, serves}
use Rattle.pp_law.specs.Decisions.{fits, kind_of}
use Rattle.pp_law.specs.Followers.{fill, fill_for, fill_next, fill_span, fill_with, filling_exchange, need_of}
use Rattle.pp_law.specs.Lists.{Bytes}
use Rattle.pp_law.specs.Requests.{key_in}
use Rattle.pp_law.specs.State.{State, AskTooLong, Client, Exchange}
use Rattle.pp_law.specs.Table.{Next, next_of, row, row_for}
use Rattle.pp_laws.proofs.Sound.{client_number}
use Rattle.pp_laws_pool.proofs.View.{Holds, holds, facts_of}
use Rattle.pp_laws_pool.proofs.WalkCases.{by_front, by_result, each_of, when}
use Rattle.pp_laws_pool.proofs.WalkClients.{leave-keeps}
use Rattle.pp_laws_pool.proofs.WalkExchanges.{on_client-keeps}
use Rattle.pp_laws_pool.proofs.WalkRows.{enter-keeps, mark_row-keeps, swept-keeps}
use Rattle.pp_laws_sides.proofs.Names.{Named, Names, named_walk, raise}

-- one more
one_more : {o : Names} {m : ℕ} (s : State) → Holds (Named o m) s → Holds (Named o (m + 1)) s
one_more {o} {m} s h = raise m (m + 1) s (omega arith) h

begin-named : {o : Names} {m : ℕ} (e : Exchange) (s : State) → Holds (Named o m) s → Holds (Named o (m + 1)) (begin_exchange e s)
unfolding begin_exchange add_exchange leave forsake
begin-named {o} {m} e s h = holds (record {
  clients_are = (facts_of h).clients_are;
  conns_are = (facts_of h).conns_are;
  few = let le : s.next_exchange ≤ m = (facts_of h).few in omega arith;
})

-- ---- followers

fill_with-named : {o : Names} {m : ℕ} (e : Exchange) (c : Client) (s : State) → Holds (Named o m) s → Holds (Named o (m + 1)) (fill_with e c s)
unfolding fill_with
fill_with-named e c s h = when (fits e.text) (begin-named e s h) (one_more _ (on_client-keeps (named_walk _ _) c.number (λ x. record x { course = AskTooLong }) s (λ x. refl) h))

fill_span-named : {o : Names} {m : ℕ} (c : Client) (n : Next) (span : ℕ × ℕ) (s : State) → Holds (Named o m) s → Holds (Named o (m + 1)) (fill_span c n span s)
unfolding fill_span
fill_span-named c n span s h = by_front c.front (one_more s h) (λ status. one_more s h) (λ r. by_result r.key (λ key. fill_with-named (filling_exchange s c r.head key n span) c s h) (λ fault. one_more s h))

fill_next-named : {o : Names} {m : ℕ} (c : Client) (n : Next) (s : State) → Holds (Named o m) s → Holds (Named o (m + 1)) (fill_next c n s)
unfolding fill_next
fill_next-named c n s h = each_of (need_of s n) (one_more s h) (λ span. fill_span-named c n span s h)

fill_for-named : {o : Names} {m : ℕ} (c : Client) (s : State) → Holds (Named o m) s → Holds (Named o (m + 1)) (fill_for c s)
unfolding fill_for
fill_for-named c s h = when (is_trying c.course) (each_of (next_of s c) (one_more s h) (λ n. fill_next-named c n s h)) (one_more s h)

each_filled : {o : Names} (m : ℕ) (ns : List ℕ) (s : State) → Holds (Named o m) s → Holds (Named o (m + length ns)) (each_client fill_for ns s)
unfolding each_client
each_filled m [] s h = raise m (m + 0) s (omega arith) h
each_filled m (n ∷ ns) s h =
    raise (m + 1 + length ns) (m + length (n ∷ ns)) _ (omega arith) (each_filled (m + 1) ns _ (each_of (client s n) (one_more s h) (λ c. fill_for-named c s h)))

pub fill-named : {o : Names} {m : ℕ} (s : State) → Holds (Named o m) s → Holds (Named o (m + length o.clients)) (fill s)
unfolding fill
fill-named {o} {m} s h = when s.is_stopped (raise m (m + length o.clients) s (omega arith) h) (subst (λ n. Holds (Named o (m + n)) (each_client fill_for (map client_number s.clients) s)) (ap (λ (ns : List ℕ). length ns) (facts_of h).clients_are) (each_filled m (map client_number s.clients) s h))

-- ---- decisions

ask_for-named : {o : Names} {m : ℕ} (c : Client) (d : Decision) (head : Request) (key : Key) (kind : AskKind) (s : State) → Holds (Named o m) s → Holds (Named o (m + 1)) (ask_for c d head key kind s)
unfolding ask_for
ask_for-named c d head key kind s h =
    swept-keeps (named_walk _ _) _ (begin-named (new_exchange s c head key d kind) _ (leave-keeps (named_walk _ _) (is_of c.number) _ (on_client-keeps (named_walk _ _) c.number (asking_with d) s (λ x. refl) h)))

ask_as-named : {o : Names} {m : ℕ} (c : Client) (d : Decision) (head : Request) (key : Key) (s : State) → Holds (Named o m) s → Holds (Named o (m + 1)) (ask_as c d head key s)
unfolding ask_as
ask_as-named c d head key s h = each_of (kind_of head (row_for s head (text_of key)) d) (one_more s h) (λ kind. ask_for-named c d head key kind s h)

ask_origin-named : {o : Names} {m : ℕ} (c : Client) (d : Decision) (s : State) → Holds (Named o m) s → Holds (Named o (m + 1)) (ask_origin c d s)
unfolding ask_origin
ask_origin-named c d s h = by_front c.front (one_more s h) (λ status. one_more s h) (λ r. by_result r.key (λ key. ask_as-named c d r.head key s h) (λ fault. one_more s h))

follow_row-named : {o : Names} {m : ℕ} (c : Client) (d : Decision) (key : Bytes) (s : State) → Holds (Named o m) s → Holds (Named o m) (follow_row c d key s)
unfolding follow_row follow_with
follow_row-named c d key s h =
    each_of (row s key) h
    (λ x. swept-keeps (named_walk _ _) _ (leave-keeps (named_walk _ _) (λ e. is_of c.number e && not (serves x (reply_by d (Some x.id)) e)) _ (on_client-keeps (named_walk _ _) c.number (answering_with (reply_by d (Some x.id))) s (λ y. refl) h)))

follow-named : {o : Names} {m : ℕ} (c : Client) (d : Decision) (s : State) → Holds (Named o m) s → Holds (Named o (m + 1)) (follow c d s)
unfolding follow
follow-named c d s h = one_more _ (each_of (key_in c.front) h (λ key. follow_row-named c d (text_of key) s h))

relay-named : {o : Names} {m : ℕ} (c : Client) (s : State) → Holds (Named o m) s → Holds (Named o (m + 1)) (relay c s)
unfolding relay
relay-named c s h = one_more _ (swept-keeps (named_walk _ _) _ (on_client-keeps (named_walk _ _) c.number (answering_with (reply_by Relay None)) s (λ x. refl) h))

refuse-named : {o : Names} {m : ℕ} (c : Client) (status : ℕ) (s : State) → Holds (Named o m) s → Holds (Named o (m + 1)) (refuse c status s)
unfolding refuse
refuse-named c status s h = one_more _ (swept-keeps (named_walk _ _) _ (leave-keeps (named_walk _ _) (is_of c.number) _ (on_client-keeps (named_walk _ _) c.number (refused_with status) s (λ x. refl) h)))

mark_row_of-named : {o : Names} {m : ℕ} (key : Bytes) (s : State) → Holds (Named o m) s → Holds (Named o m) (mark_row_of key s)
unfolding mark_row_of
mark_row_of-named key s h = each_of (row s key) h (λ x. mark_row-keeps (named_walk _ _) x.id s h)

enter_row-named : {o : Names} {m : ℕ} (c : Client) (d : Decision) (s : State) → Holds (Named o m) s → Holds (Named o m) (enter_row c d s)
unfolding enter_row
enter_row-named c d s h = when (is_for_memory d) h (each_of (key_in c.front) h (λ key. mark_row_of-named (text_of key) _ (enter-keeps (named_walk _ _) (text_of key) false s h)))

decided_by-named : {o : Names} {m : ℕ} (c : Client) (d : Decision) (s : State) → Holds (Named o m) s → Holds (Named o (m + 1)) (decided_by c d s)
unfolding decided_by
decided_by-named c (Refuse status) s h = refuse-named c status s h
decided_by-named c Pass s h = ask_origin-named c Pass s h
decided_by-named c Fetch s h = ask_origin-named c Fetch s h
decided_by-named c Validate s h = ask_origin-named c Validate s h
decided_by-named c Relay s h = relay-named c s h
decided_by-named c (Hit from to) s h = follow-named c (Hit from to) s h
decided_by-named c (Part from to) s h = follow-named c (Part from to) s h
decided_by-named c Head s h = follow-named c Head s h
decided_by-named c NotModified s h = follow-named c NotModified s h
decided_by-named c Unsatisfiable s h = follow-named c Unsatisfiable s h

pub decided-named : {o : Names} {m : ℕ} (c : Client) (d : Decision) (s : State) → Holds (Named o m) s → Holds (Named o (m + 1)) (decided c d s)
unfolding decided
decided-named c d s h = decided_by-named c d _ (enter_row-named c d s h)
