-- What is done for clients keeps what is kept by each change: decisions, replies, asks and closings.
use Rattle.std.proofs.Common.{◌≡◌, ◌⊎◌, refl, ℕ, zero, suc, ◌+◌, ◌-◌, ◌/◌, nat_lt, Bool, true, false, not, ◌&&◌, ◌||◌, List, [], drop, length, Option, Some, None, Result, Ok, Err, inl, sym, subst, ap, ◌∙◌, arith}
use Rattle.pp_ask.specs.declared.kind.AskKind.{AskKind}
use Rattle.pp_pass.specs.Pipe.{Pipe}
use Rattle.pp_target.specs.Key.{Key, text_of}
use Rattle.pp_target.specs.declared.target.TargetFault.{TargetFault}
use Rattle.pp_world.specs.declared.note.Decision.TheVariants.{Refuse, Hit, Part, Head, NotModified, Unsatisfiable, Relay, Validate, Fetch, Pass}
use Rattle.pp_world.specs.declared.note.Decision.{Decision}
use Rattle.pp_law.specs.Asking.{asking, is_writing, hear, ask_body, ask_next, ask, hang_up, asked_text, asked_body}
use Rattle.pp_law.specs.Chunks.{chunk_len, use_chunk}
use Rattle.pp_law.specs.Closing.{is_of, forsake, is_over, leave, close_client}
use Rattle.pp_law.specs.Connections.{is_client, is_outstanding, is_trying, on_client, on_exchange}
use Rattle.pp_law.specs.Deciding.{refused_with, refuse, begin_exchange, new_exchange, asking_with, ask_for, ask_as, ask_origin, reply_by, answering_with, is_pass, serves, follow_with, follow_row, follow, relay, is_for_memory, mark_row_of, enter_row, decided_by, decided}
use Rattle.pp_law.specs.Decisions.{kind_of, fits}
use Rattle.pp_law.specs.Followers.{need_of, filling_exchange, fill_with, fill_span, fill_next, fill_for, fill, is_useless_ask, give_up_asks}
use Rattle.pp_law.specs.Hearing.{heard_by}
use Rattle.pp_law.specs.Lists.{Bytes, change}
use Rattle.pp_law.specs.Passing.{pour}
use Rattle.pp_law.specs.Replies.{begun_at_end, is_outrun, begin_replies, use_chunks, use_from, use_said, of_body, is_said, next_request, end_reply, end_said, is_finished, close_finished, end_replies, regained_by, regained}
use Rattle.pp_law.specs.Requests.{Front, Parsed, NoHeadYet, NoHead, IsRequest, is_asked_once, key_in}
use Rattle.pp_law.specs.Stages.{on_passed, reply_of}
use Rattle.pp_law.specs.State.{State, AskTooLong, Awaited, Client, Exchange, Passed, Phase, Trying, Undecided}
use Rattle.pp_law.specs.Table.{Next, is_row_of, next_in, next_of, row, row_for}
use Rattle.pp_laws.specs.Runs.{IsIn}
use Rattle.pp_laws_turn.proofs.Same.{asking_with-same, begun_at_end-same, heard_by-same, on_passed-same, refused_with-same, regained_by-same, relayed-same}
use Rattle.pp_laws.proofs.Lists.{changed_at, in_find}
use Rattle.pp_laws.proofs.Sound.{instance_id}
use Rattle.pp_laws.proofs.Tests.{number_same, same_number}
use Rattle.pp_laws_bounds.proofs.Counts.{in_map_of}
use Rattle.pp_laws_turn.proofs.View.{View, Walk, Begins, Follows, Holds, holds, facts_of, view, IsHeard, IsNew, KeepsRows, MovesOn, is_late, OfKeys, WalkOf, KeepsRowsOf}
use Rattle.pp_laws_turn.proofs.Bodies.{fronted_bodied}
use Rattle.pp_laws_turn.proofs.Cases.{each_of, each_so, when}
use Rattle.pp_laws_turn.proofs.Exchanges.{each_client-keeps, on_client-keeps, on_client_of-keeps, on_exchange-keeps, on_exchange_of-keeps, same_ask, same_parts}
use Rattle.pp_laws_turn.proofs.Rows.{enter-named, mark_row-keeps, swept-keeps, use_chunk-keeps}

pub pour-keeps : {K : OfKeys} {P : View → Type 0} (w : WalkOf K P) (e : Exchange) (f : Pipe → Pipe) (s : State) → Holds P s → Holds P (pour e f s)
unfolding pour
pour-keeps w e f s h = on_client_of-keeps w e (on_passed piped) s (on_passed-same piped) h
  where
    piped : Passed → Passed
    piped p = record p { pipe = f p.pipe }

-- ---- an exchange that its request leaves

pub forsake-keeps : {K : OfKeys} {P : View → Type 0} (w : WalkOf K P) (test : Exchange → Bool) (s : State) → Holds P s → Holds P (forsake test s)
unfolding forsake
forsake-keeps w test s h = holds (w.left test (view s) (facts_of h))

pub leave-keeps : {K : OfKeys} {P : View → Type 0} (w : WalkOf K P) (test : Exchange → Bool) (s : State) → Holds P s → Holds P (leave test s)
unfolding leave
leave-keeps w test s h = holds (w.over (λ e. not (is_over e)) (view (forsake test s)) (facts_of (forsake-keeps w test s h)))

-- ---- a client is closed

pub close_client-keeps : {K : OfKeys} {P : View → Type 0} (w : WalkOf K P) (n : ℕ) (is_cut : Bool) (s : State) → Holds P s → Holds P (close_client n is_cut s)
unfolding close_client
close_client-keeps w n is_cut s h = swept-keeps w.rows _ (holds (w.closes n (λ c. record c { is_closing = true; is_cut = c.is_cut || is_cut }) (λ c. refl) (λ c. refl) (λ c b. b) (λ c. refl) s (facts_of h)))

-- ---- decisions

refuse-keeps : {K : OfKeys} {P : View → Type 0} (w : WalkOf K P) (c : Client) (status : ℕ) (s : State) → Holds P s → Holds P (refuse c status s)
unfolding refuse
refuse-keeps w c status s h = swept-keeps w.rows _ (leave-keeps w (is_of c.number) _ (on_client-keeps w c.number (refused_with status) s (refused_with-same status) h))

pub begin_exchange-keeps : {P : View → Type 0} (b : Begins P) (e : Exchange) (s : State) → IsNew e s.clients s.next_exchange → Holds P s → Holds P (begin_exchange e s)
begin_exchange-keeps b e s is_new h = holds (b e s is_new (facts_of h))

-- the client is there, and goes on
pub record IsThere (c : Client) (clients : List Client) : Type 0 where
  pub there : IsIn c clients
  pub going : c.is_closing ≡ false

in_changed : (f : Client → Client) (c : Client) (cs : List Client) → IsIn c cs → IsIn (f c) (change (is_client c.number) f cs)
in_changed f c cs i = subst (λ (d : Client). IsIn d (change (is_client c.number) f cs)) (ap (λ b. elim b as (λ x. Client) [ true ↦ f c | false ↦ c ]) (number_same c.number)) (in_map_of (changed_at (is_client c.number) f) c cs i)

ask_for-keeps : {K : OfKeys} {P : View → Type 0} (w : WalkOf K P) (b : Begins P) (c : Client) (d : Decision) (r : Parsed) (key : Key) (kind : AskKind) (s : State) → c.front ≡ IsRequest r → r.key ≡ Ok key → IsHeard c → IsThere c s.clients → Holds P s → Holds P (ask_for c d r.head key kind s)
unfolding ask_for leave forsake on_client
ask_for-keeps w b c d r key kind s front keyed heard there h =
    swept-keeps w.rows _
    (begin_exchange-keeps b (new_exchange s c r.head key d kind) _
    (record {
      number = refl;
      place = refl;
      asked = refl;
      body = body_of (is_pass d) (heard r front).once;
      key = λ all. sym (heard r front).key ∙ keyed;
      asker = c.number;
      is = refl;
      goes = record { client = asking_with d c; there = in_changed (asking_with d) c s.clients there.there; number = refl; at = record { going = there.going; request = r; front = front; head = refl } };
    })
    (leave-keeps w (is_of c.number) _ (on_client-keeps w c.number (asking_with d) s (asking_with-same d) h)))
  where
    body_of : (pass : Bool) → (c.body_left ≡ 0) ⊎ (is_asked_once r.head ≡ true) → ((elim pass as (λ x. ℕ) [ true ↦ c.body_left | false ↦ 0 ]) ≡ 0) ⊎ (is_asked_once r.head ≡ true)
    body_of true once = once
    body_of false once = inl refl

ask_as-keeps : {K : OfKeys} {P : View → Type 0} (w : WalkOf K P) (b : Begins P) (c : Client) (d : Decision) (r : Parsed) (key : Key) (s : State) → c.front ≡ IsRequest r → r.key ≡ Ok key → IsHeard c → IsThere c s.clients → Holds P s → Holds P (ask_as c d r.head key s)
unfolding ask_as
ask_as-keeps w b c d r key s front keyed heard there h = each_of (kind_of r.head (row_for s r.head (text_of key)) d) h (λ kind. ask_for-keeps w b c d r key kind s front keyed heard there h)

ask_origin-keeps : {K : OfKeys} {P : View → Type 0} (w : WalkOf K P) (b : Begins P) (c : Client) (d : Decision) (s : State) → IsHeard c → IsThere c s.clients → Holds P s → Holds P (ask_origin c d s)
unfolding ask_origin
ask_origin-keeps {P} w b c d s heard there h = by c.front refl
  where
    by_key : (r : Parsed) (k : Result Key TargetFault) → c.front ≡ IsRequest r → r.key ≡ k → Holds P (elim k as (λ x. State) [ Ok key ↦ ask_as c d r.head key s | Err fault ↦ s ])
    by_key r (Ok key) is keyed = ask_as-keeps w b c d r key s is keyed heard there h
    by_key r (Err fault) is keyed = h

    by : (front : Front) → c.front ≡ front → Holds P (elim front as (λ x. State) [
      | NoHeadYet ↦ s
      | NoHead status ↦ s
      | IsRequest r ↦ elim r.key as (λ x. State) [ Ok key ↦ ask_as c d r.head key s | Err fault ↦ s ]
    ])
    by NoHeadYet is = h
    by (NoHead status) is = h
    by (IsRequest r) is = by_key r r.key is refl

follow_row-keeps : {K : OfKeys} {P : View → Type 0} (w : WalkOf K P) (f : Follows P) (c : Client) (d : Decision) (key : Bytes) (s : State) → is_late s.phase ≡ true → Holds P s → Holds P (follow_row c d key s)
unfolding follow_row follow_with on_client
follow_row-keeps w f c d key s late h =
    each_so (row s key) (λ none. h)
    (λ x found. swept-keeps w.rows _ (leave-keeps w (λ e. is_of c.number e && not (serves x (reply_by d (Some x.id)) e)) _
    (holds (f c.number x.id (answering_with (reply_by d (Some x.id))) (λ y. record { number = refl; closing = refl; request = λ r is. is; body = λ b. b; joins = λ k is. is }) (λ y k is. cc) (view s) late
    (in_map_of instance_id x s.instances (in_find (is_row_of key) x s.instances found).0) (facts_of h)))))

follow-keeps : {K : OfKeys} {P : View → Type 0} (w : WalkOf K P) (f : Follows P) (c : Client) (d : Decision) (s : State) → is_late s.phase ≡ true → Holds P s → Holds P (follow c d s)
unfolding follow
follow-keeps w f c d s late h = each_of (key_in c.front) h (λ key. follow_row-keeps w f c d (text_of key) s late h)

relay-keeps : {K : OfKeys} {P : View → Type 0} (w : WalkOf K P) (c : Client) (s : State) → Holds P s → Holds P (relay c s)
unfolding relay
relay-keeps w c s h = swept-keeps w.rows _ (on_client-keeps w c.number (answering_with (reply_by Relay None)) s relayed-same h)

mark_row_of-keeps : {K : OfKeys} {P : View → Type 0} (w : KeepsRowsOf K P) (key : Bytes) (s : State) → Holds P s → Holds P (mark_row_of key s)
unfolding mark_row_of
mark_row_of-keeps w key s h = each_of (row s key) h (λ x. mark_row-keeps w x.id s h)

-- the key of its request, of which that holds
abbrev pub NamesKey : OfKeys → Client → Type 0
NamesKey K c = (key : Key) → key_in c.front ≡ Some key → K (text_of key)

pub enter_row-named : {K : OfKeys} {P : View → Type 0} (w : KeepsRowsOf K P) (c : Client) (d : Decision) (s : State) → NamesKey K c → Holds P s → Holds P (enter_row c d s)
unfolding enter_row
enter_row-named w c d s of h = when (is_for_memory d) h (each_so (key_in c.front) (λ none. h) (λ key is. mark_row_of-keeps w (text_of key) _ (enter-named w (text_of key) false s (of key is) h)))

pub enter_row-keeps : {P : View → Type 0} (w : KeepsRows P) (c : Client) (d : Decision) (s : State) → Holds P s → Holds P (enter_row c d s)
enter_row-keeps w c d s h = enter_row-named w c d s (λ key is. tt) h

decided_by-keeps : {K : OfKeys} {P : View → Type 0} (w : WalkOf K P) (b : Begins P) (f : Follows P) (c : Client) (d : Decision) (s : State) → IsHeard c → IsThere c s.clients → is_late s.phase ≡ true → Holds P s → Holds P (decided_by c d s)
unfolding decided_by
decided_by-keeps w b f c (Refuse status) s heard there late h = refuse-keeps w c status s h
decided_by-keeps w b f c Pass s heard there late h = ask_origin-keeps w b c Pass s heard there h
decided_by-keeps w b f c Fetch s heard there late h = ask_origin-keeps w b c Fetch s heard there h
decided_by-keeps w b f c Validate s heard there late h = ask_origin-keeps w b c Validate s heard there h
decided_by-keeps w b f c Relay s heard there late h = relay-keeps w c s h
decided_by-keeps w b f c (Hit from to) s heard there late h = follow-keeps w f c (Hit from to) s late h
decided_by-keeps w b f c (Part from to) s heard there late h = follow-keeps w f c (Part from to) s late h
decided_by-keeps w b f c Head s heard there late h = follow-keeps w f c Head s late h
decided_by-keeps w b f c NotModified s heard there late h = follow-keeps w f c NotModified s late h
decided_by-keeps w b f c Unsatisfiable s heard there late h = follow-keeps w f c Unsatisfiable s late h

-- the clients that are there stay, and the phase, while nothing but rows is changed
abbrev AreThose : List Client → Phase → View → Type 0
AreThose cs p v = (v.clients ≡ cs) × (v.phase ≡ p)

entered_same : (c : Client) (d : Decision) (s : State) → AreThose s.clients s.phase (view (enter_row c d s))
entered_same c d s = facts_of (enter_row-keeps {P = AreThose s.clients s.phase} (λ xs next v from h. h) c d s (holds (refl, refl)))

pub decided-named : {K : OfKeys} {P : View → Type 0} (w : WalkOf K P) (b : Begins P) (f : Follows P) (c : Client) (d : Decision) (s : State) → NamesKey K c → IsHeard c → IsThere c s.clients → is_late s.phase ≡ true → Holds P s → Holds P (decided c d s)
unfolding decided
decided-named w b f c d s of heard there late h =
    let e = entered_same c d s in
    decided_by-keeps w b f c d _ heard (record { there = subst (λ (cs : List Client). IsIn c cs) (sym e.0) there.there; going = there.going }) (ap is_late e.1 ∙ late) (enter_row-named w.rows c d s of h)

pub decided-keeps : {P : View → Type 0} (w : Walk P) (b : Begins P) (f : Follows P) (c : Client) (d : Decision) (s : State) → IsHeard c → IsThere c s.clients → is_late s.phase ≡ true → Holds P s → Holds P (decided c d s)
decided-keeps w b f c d s heard there late h = decided-named w b f c d s (λ key is. tt) heard there late h

-- ---- replies

pub begin_replies-keeps : {K : OfKeys} {P : View → Type 0} (w : WalkOf K P) (s : State) → Holds P s → Holds P (begin_replies s)
unfolding begin_replies
begin_replies-keeps w s h = swept-keeps w.rows _ (forsake-keeps w (is_outrun s) _ (holds (w.clients (begun_at_end s) (begun_at_end-same s) (view s) (facts_of h))))

use_chunks-keeps : {P : View → Type 0} (more id i : ℕ) (s : State) → Holds P s → Holds P (use_chunks more id i s)
unfolding use_chunks
use_chunks-keeps zero id i s h = h
use_chunks-keeps (suc more) id i s h = use_chunks-keeps more id (i + 1) (use_chunk id i s) (use_chunk-keeps id i s h)

use_from-keeps : {P : View → Type 0} (n : ℕ) (x : Next) (s : State) → Holds P s → Holds P (use_from n x s)
unfolding use_from
use_from-keeps n x s h = use_chunks-keeps _ x.source.id (x.at / chunk_len) s h

pub use_said-keeps : {P : View → Type 0} (n : ℕ) (c : Client) (s : State) → Holds P s → Holds P (use_said n c s)
unfolding use_said
use_said-keeps n c s h = when (nat_lt 0 (of_body n c)) (each_of (next_of s c) h (λ x. use_from-keeps (of_body n c) x s h)) h

next_moves : (c : Client) → MovesOn (next_request c) c
next_moves c = record {
  number = refl;
  closing = refl;
  source = refl;
  body = fronted_bodied (record c {
    front = NoHeadYet;
    heard = drop c.body_left c.heard;
    skip = c.skip + (c.body_left - length c.heard);
    body_left = 0;
    index = c.index + 1;
    stage = Undecided;
    waits_on = None;
    brought = Awaited;
    course = Trying 0;
    has_given_up = false;
    interim_left = [];
    closes = false;
  });
  joins = refl;
}

moved_on : {K : OfKeys} {P : View → Type 0} (w : WalkOf K P) (n : ℕ) (s : State) → Holds P s → Holds P (forsake (is_of n) (on_client n next_request s))
unfolding forsake on_client
moved_on w n s h = holds (w.leaves n next_request next_moves (view s) (facts_of h))

end_reply-keeps : {K : OfKeys} {P : View → Type 0} (w : WalkOf K P) (c : Client) (s : State) → Holds P s → Holds P (end_reply c s)
unfolding end_reply
end_reply-keeps w c s h = when c.closes (close_client-keeps w c.number false s h) (swept-keeps w.rows _ (moved_on w c.number s h))

end_said-keeps : {K : OfKeys} {P : View → Type 0} (w : WalkOf K P) (c : Client) (s : State) → Holds P s → Holds P (end_said c s)
unfolding end_said
end_said-keeps w c s h = when (is_said c && not c.is_closing) (end_reply-keeps w c s h) h

close_finished-keeps : {K : OfKeys} {P : View → Type 0} (w : WalkOf K P) (c : Client) (s : State) → Holds P s → Holds P (close_finished c s)
unfolding close_finished
close_finished-keeps w c s h = when (is_finished c) (close_client-keeps w c.number false s h) h

pub end_replies-keeps : {K : OfKeys} {P : View → Type 0} (w : WalkOf K P) (s : State) → Holds P s → Holds P (end_replies s)
unfolding end_replies
end_replies-keeps w s h = each_client-keeps w close_finished (λ c t i ht. close_finished-keeps w c t ht) _ _ (each_client-keeps w end_said (λ c t i ht. end_said-keeps w c t ht) _ s h)

pub regained-keeps : {K : OfKeys} {P : View → Type 0} (w : WalkOf K P) (s : State) → Holds P s → Holds P (regained s)
unfolding regained
regained-keeps w s h = holds (w.clients (regained_by s) (regained_by-same s) (view s) (facts_of h))

-- ---- what followers ask for

fill_with-keeps : {K : OfKeys} {P : View → Type 0} (w : WalkOf K P) (b : Begins P) (e : Exchange) (c : Client) (s : State) → IsNew e s.clients s.next_exchange → Holds P s → Holds P (fill_with e c s)
unfolding fill_with
fill_with-keeps w b e c s is_new h = when (fits e.text) (begin_exchange-keeps b e s is_new h) (on_client-keeps w c.number (λ x. record x { course = AskTooLong }) s (λ x. same_parts _ x refl refl refl refl refl (λ is. is)) h)

fill_span-keeps : {K : OfKeys} {P : View → Type 0} (w : WalkOf K P) (b : Begins P) (c : Client) (n : Next) (span : ℕ × ℕ) (s : State) → IsThere c s.clients → Holds P s → Holds P (fill_span c n span s)
unfolding fill_span
fill_span-keeps {P} w b c n span s there h = by c.front refl
  where
    is_new : (r : Parsed) (key : Key) → c.front ≡ IsRequest r → r.key ≡ Ok key → IsNew (filling_exchange s c r.head key n span) s.clients s.next_exchange
    is_new r key is keyed = record { number = refl; place = refl; asked = refl; body = inl refl; key = λ heard. sym (heard c there.there r is).key ∙ keyed; asker = c.number; is = refl; goes = record { client = c; there = there.there; number = refl; at = record { going = there.going; request = r; front = is; head = refl } } }

    by_key : (r : Parsed) (k : Result Key TargetFault) → c.front ≡ IsRequest r → r.key ≡ k → Holds P (elim k as (λ x. State) [ Ok key ↦ fill_with (filling_exchange s c r.head key n span) c s | Err fault ↦ s ])
    by_key r (Ok key) is keyed = fill_with-keeps w b (filling_exchange s c r.head key n span) c s (is_new r key is keyed) h
    by_key r (Err fault) is keyed = h

    by : (front : Front) → c.front ≡ front → Holds P (elim front as (λ x. State) [
      | NoHeadYet ↦ s
      | NoHead status ↦ s
      | IsRequest r ↦ elim r.key as (λ x. State) [ Ok key ↦ fill_with (filling_exchange s c r.head key n span) c s | Err fault ↦ s ]
    ])
    by NoHeadYet is = h
    by (NoHead status) is = h
    by (IsRequest r) is = by_key r r.key is refl

fill_next-keeps : {K : OfKeys} {P : View → Type 0} (w : WalkOf K P) (b : Begins P) (c : Client) (n : Next) (s : State) → IsThere c s.clients → Holds P s → Holds P (fill_next c n s)
unfolding fill_next
fill_next-keeps w b c n s there h = each_of (need_of s n) h (λ span. fill_span-keeps w b c n span s there h)

-- who has a next byte goes on
next_going : (c : Client) (n : Next) (o : Option Next) (closing : Bool) → (elim closing as (λ x. Option Next) [ true ↦ None | false ↦ o ]) ≡ Some n → closing ≡ false
next_going c n o true is = absurd (cc is)
next_going c n o false is = refl

fill_for-keeps : {K : OfKeys} {P : View → Type 0} (w : WalkOf K P) (b : Begins P) (c : Client) (s : State) → IsIn c s.clients → Holds P s → Holds P (fill_for c s)
unfolding fill_for
fill_for-keeps w b c s i h = when (is_trying c.course)
    (each_so (next_of s c) (λ none. h) (λ n is. fill_next-keeps w b c n s (record { there = i; going = next_going c n (elim (reply_of c) as (λ x. Option Next) [ None ↦ None | Some r ↦ next_in s r ]) c.is_closing is }) h)) h

pub fill-keeps : {K : OfKeys} {P : View → Type 0} (w : WalkOf K P) (b : Begins P) (s : State) → Holds P s → Holds P (fill s)
unfolding fill
fill-keeps w b s h = when s.is_stopped h (each_client-keeps w fill_for (fill_for-keeps w b) _ s h)

pub give_up_asks-keeps : {K : OfKeys} {P : View → Type 0} (w : WalkOf K P) (s : State) → Holds P s → Holds P (give_up_asks s)
unfolding give_up_asks
give_up_asks-keeps w s h = holds (w.over (λ e. not (is_useless_ask s e)) (view s) (facts_of h))

-- ---- what is heard and asked

pub hear-keeps : {K : OfKeys} {P : View → Type 0} (w : WalkOf K P) (n : ℕ) (bytes : Bytes) (s : State) → Holds P s → Holds P (hear n bytes s)
unfolding hear
hear-keeps w n bytes s h = end_replies-keeps w _ (on_client-keeps w n (heard_by bytes) s (heard_by-same bytes) h)

pub hang_up-keeps : {K : OfKeys} {P : View → Type 0} (w : WalkOf K P) (n : ℕ) (s : State) → Holds P s → Holds P (hang_up n s)
unfolding hang_up
hang_up-keeps w n s h = when (is_writing s.owed n) (close_client-keeps w n false s h) (end_replies-keeps w _ (on_client-keeps w n (λ c. record c { has_hung_up = true }) s (λ c. same_parts _ c refl refl refl refl refl (λ is. is)) h))

none_less : (m n : ℕ) → m ≡ 0 → m - n ≡ 0
none_less m n is = omega arith

ask_body-keeps : {K : OfKeys} {P : View → Type 0} (w : WalkOf K P) (e : Exchange) (n : ℕ) (s : State) → Holds P s → Holds P (ask_body e n s)
unfolding ask_body
ask_body-keeps w e n s h = on_client_of-keeps w e (asked_body n) _ (λ c. same_parts _ c refl refl refl refl refl (none_less c.body_left n)) (on_exchange-keeps w e.number (λ x. record x { body_left = x.body_left - n }) s (λ x. same_ask _ x refl refl refl refl refl refl (none_less x.body_left n)) h)

-- what is asked of stands in a line
abbrev pub HasPlace : ℕ → List Exchange → Type 0
HasPlace n exchanges = (e : Exchange) → IsIn e exchanges → e.number ≡ n → e.place ≡ None → ⊥

ask_next-keeps : {K : OfKeys} {P : View → Type 0} (w : WalkOf K P) (e : Exchange) (n : ℕ) (s : State) → HasPlace e.number s.exchanges → Holds P s → Holds P (ask_next e n s)
unfolding ask_next
ask_next-keeps {P} w e n s placed h = by (is_outstanding e)
  where
    by : (t : Bool) → Holds P (elim t as (λ c. State) [ false ↦ on_exchange e.number (asked_text n s.clock) s | true ↦ ask_body e n s ])
    by false = on_exchange_of-keeps w e.number (asked_text n s.clock) s (λ x i is. record { number = refl; asker = refl; key = refl; head = refl; asked = λ none. absurd (placed x i (same_number x.number e.number is) none); body = λ is0. is0 }) h
    by true = ask_body-keeps w e n s h

pub ask-keeps : {K : OfKeys} {P : View → Type 0} (w : WalkOf K P) (k n : ℕ) (s : State) → ((e : Exchange) → asking s k ≡ Some e → HasPlace e.number s.exchanges) → Holds P s → Holds P (ask k n s)
unfolding ask
ask-keeps w k n s placed h = each_so (asking s k) (λ none. h) (λ e is. ask_next-keeps w e n s (placed e is) h)
