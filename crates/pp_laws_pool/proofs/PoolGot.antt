-- What one read of an origin brings: of so many bytes, in as many bodies as asks stand in the line, no more chunks than there is room for.
use Rattle.std.proofs.Common.{◌≡◌, ◌⊎◌, refl, ℕ, zero, suc, ◌+◌, ◌-◌, ◌*◌, ◌/◌, ◌<◌, ◌≤◌, nat_le, Bool, true, false, not, ◌==◌, ◌&&◌, ◌||◌, min, List, [], ◌∷◌, ◌++◌, map, filter, find, cond, take, drop, length, Option, Some, None, Result, Ok, Err, inl, inr, sym, subst, ap, ◌∙◌, zero-le, le_refl, le_trans, length-append, arith}
use Rattle.std.proofs.Math.Nat.{min-le_right, mul-div-le}
use Rattle.std.proofs.lemmas.List.{length-drop, take-append-le, take-append-drop}
use Rattle.std.proofs.lemmas.Bool.Decides.{nat_tests}
use Rattle.pp_conf.specs.Conf.{Settings}
use Rattle.pp_framing.specs.Body.{Body, Outcome, Done, Going, Bad}
use Rattle.pp_framing.specs.Framing.{rule_of}
use Rattle.pp_framing.specs.Rules.{body_of}
use Rattle.pp_framing.specs.declared.body.BodyRule.{BodyRule}
use Rattle.pp_framing.specs.declared.framing.ResponseFault.{ResponseFault}
use Rattle.pp_head.specs.Read.{Read, Whole, TooLong, Bad as NoHead, More}
use Rattle.pp_head.specs.Response.{Response, response_at}
use Rattle.pp_head.specs.Read.{Stays}
use Rattle.pp_head.proofs.ResponseAgrees.{response_cut, response_stays}
use Rattle.pp_pass.specs.Pipe.{Pipe, finished}
use Rattle.pp_pipe.specs.Front.{is_interim}
use Rattle.pp_text.specs.Bytes.{is_empty}
use Rattle.pp_valid.specs.declared.version.Version.{Version}
use Rattle.pp_law.specs.Chunks.{joined, note_use, trigger}
use Rattle.pp_law.specs.Connections.{conn, exchange, is_conn, is_exchange, on_client_of, on_conn, on_exchange, front_of_line, close_conn, end_exchange, without_ask}
use Rattle.pp_law.specs.Lists.{Bytes}
use Rattle.pp_law.specs.OwnHeads.{is_wrong_head, join, joined_one, join_bound, moved_on, note_own, note_sent}
use Rattle.pp_law.specs.Passing.{pour, poured}
use Rattle.pp_law.specs.Responses.{skip_body, rested, close_this, may_go_on, finish, bad_response, bad_head, asks_head, by_aim, answer_with, answered_by, end_if_empty, begin_answer, answer_for, head_came, Piece, is_early, with_unread, head_piece, deliver, payload_of, body_piece_of, body_piece, next_piece, got, bring_row}
use Rattle.pp_law.specs.Stages.{bound_of}
use Rattle.pp_law.specs.State.{State, Aim, Through, Own, Filling, Joining, Answer, Bound, Chunk, Conn, Exchange, Instance}
use Rattle.pp_law.specs.Table.{extent_of, instance}
use Rattle.pp_laws.specs.Runs.{IsIn}
use Rattle.pp_laws.proofs.Lists.{Changed, From, in_change, in_filter, in_find, in_map, other, same}
use Rattle.pp_laws.proofs.Payloads.{payload-grows}
use Rattle.pp_laws.proofs.Tests.{number_same, same_number}
use Rattle.pp_laws_bounds.proofs.Counts.{length-filter}
use Rattle.pp_laws_pool.proofs.ChunkLists.{AreApart, joined_apart, joined_few}
use Rattle.pp_laws_pool.proofs.Payloads.{body_weighs, left_by, nothing_bad}
use Rattle.pp_laws_pool.proofs.PoolFacts.{As, Facts, GoesOn, IsNear, Pool, calm, conns_kept, find_map, nothing_read, pool_walk}
use Rattle.pp_laws_pool.proofs.View.{View, Walk, Holds, holds, facts_of, view, SameAsk}
use Rattle.pp_laws_pool.proofs.WalkCases.{by_aim_of, each_of, when}
use Rattle.pp_laws_pool.proofs.WalkClients.{pour-keeps}
use Rattle.pp_laws_pool.proofs.WalkClosings.{close_conn-keeps}
use Rattle.pp_laws_pool.proofs.WalkExchanges.{end_exchange-keeps, on_conn-keeps, on_exchange-keeps, same_ask}
use Rattle.pp_laws_pool.proofs.WalkHeads.{bring_row-keeps, by_aim-keeps}
use Rattle.pp_laws_pool.proofs.WalkPieces.{bad_head-keeps, bad_response-keeps, close_this-keeps, lesser_rested, skip_body-keeps}

-- ---- changes of one connection

pub same_in : {A : Type 0} {x y : A} → Some x ≡ Some y → x ≡ y
same_in e = cc e

abbrev pub paired : {B : Type 0} → ℕ → B → Option (ℕ × B)
paired m x = Some (m, x)

pub same_first : {B : Type 0} {m n : ℕ} {x y : B} → paired m x ≡ paired n y → m ≡ n
same_first {B} e = ap (λ (p : ℕ × B). p.0) (same_in e)

pub same_second : {B : Type 0} {m n : ℕ} {x y : B} → paired m x ≡ paired n y → x ≡ y
same_second {B} e = ap (λ (p : ℕ × B). p.1) (same_in e)

-- a connection of that number, and no other
abbrev at_number : ℕ → (Conn → Conn) → Conn → Conn
at_number n f k = elim (is_conn n k) [ true ↦ f k | false ↦ k ]

-- its answer is this one, that goes on or is set apart, or none; and of its head more is to come
record Fine (but : Option (ℕ × Answer)) (n : ℕ) (f : Conn → Conn) : Type 0 where
  number : (k : Conn) → (f k).number ≡ k.number
  line : (k : Conn) → (f k).line ≡ k.line
  going : (k : Conn) (x : Answer) → k.number ≡ n → (f k).answer ≡ Some x → (k.answer ≡ Some x) ⊎ (GoesOn x ⊎ (but ≡ Some (k.number, x)))
  unread : (k : Conn) → ((f k).unread ≡ k.unread) ⊎ (response_at (f k).unread ≡ More)

-- which answers of the others are looked at
abbrev Allows : Option (ℕ × Answer) → Option (ℕ × Answer) → ℕ → Type 0
Allows was but n = (m : ℕ) (x : Answer) → (m ≡ n → ⊥) → was ≡ Some (m, x) → but ≡ Some (m, x)

fine_kept : (a : As) (but : Option (ℕ × Answer)) (n : ℕ) (f : Conn → Conn) (s : State) → Fine but n f → Allows a.but but n
    → ((k : Conn) (x : Answer) → IsIn k s.conns → k.number ≡ n → (f k).answer ≡ Some x → k.answer ≡ Some x → GoesOn x ⊎ (but ≡ Some (k.number, x)))
    → Holds (Pool a) s → Holds (Pool (record a { but = but })) (on_conn n f s)
unfolding on_conn
fine_kept a but n f s fine allows stays h = holds (conns_kept a but (view s) (at_number n f) (λ k. number k (is_conn n k)) (λ k. line k (is_conn n k)) (λ k x i. going k x i (is_conn n k) refl) (λ k i. unread k i (is_conn n k)) (facts_of h))
  where
    number : (k : Conn) (t : Bool) → (elim t as (λ c. Conn) [ true ↦ f k | false ↦ k ]).number ≡ k.number
    number k true = fine.number k
    number k false = refl

    line : (k : Conn) (t : Bool) → length (elim t as (λ c. Conn) [ true ↦ f k | false ↦ k ]).line ≤ length k.line
    line k true = subst (λ (ns : List ℕ). length ns ≤ length k.line) (sym (fine.line k)) (le_refl (length k.line))
    line k false = le_refl (length k.line)

    apart : (k : Conn) → is_conn n k ≡ false → k.number ≡ n → ⊥
    apart k isnt e = let both : true ≡ false = sym (number_same n) ∙ ap (λ m. m == n) (sym e) ∙ isnt in cc both

    elsewhere : (k : Conn) (x : Answer) → is_conn n k ≡ false → GoesOn x ⊎ (a.but ≡ Some (k.number, x)) → GoesOn x ⊎ (but ≡ Some (k.number, x))
    elsewhere k x isnt (inl on) = inl on
    elsewhere k x isnt (inr e) = inr (allows k.number x (apart k isnt) e)

    here : (k : Conn) (x : Answer) → IsIn k s.conns → k.number ≡ n → (f k).answer ≡ Some x → (k.answer ≡ Some x) ⊎ (GoesOn x ⊎ (but ≡ Some (k.number, x))) → GoesOn x ⊎ (but ≡ Some (k.number, x))
    here k x i at is (inl was) = stays k x i at is was
    here k x i at is (inr fresh) = fresh

    going : (k : Conn) (x : Answer) → IsIn k s.conns → (t : Bool) → is_conn n k ≡ t → (elim t as (λ c. Conn) [ true ↦ f k | false ↦ k ]).answer ≡ Some x → GoesOn x ⊎ (but ≡ Some (k.number, x))
    going k x i true hit is = here k x i (same_number k.number n hit) is (fine.going k x (same_number k.number n hit) is)
    going k x i false isnt is = elsewhere k x isnt ((facts_of h).going k x i is)

    unread_by : (k : Conn) → IsIn k s.conns → ((f k).unread ≡ k.unread) ⊎ (response_at (f k).unread ≡ More) → response_at (f k).unread ≡ More
    unread_by k i (inl e) = ap response_at e ∙ (facts_of h).unread k i
    unread_by k i (inr more) = more

    unread : (k : Conn) → IsIn k s.conns → (t : Bool) → response_at (elim t as (λ c. Conn) [ true ↦ f k | false ↦ k ]).unread ≡ More
    unread k i true = unread_by k i (fine.unread k)
    unread k i false = (facts_of h).unread k i

abbrev pub set_apart : ℕ → Answer → Option (ℕ × Answer)
set_apart n x = Some (n, x)

abbrev pub no_answer : Option (ℕ × Answer)
no_answer = None

abbrev but_for : As → ℕ → Answer → As
but_for a n x = record a { but = set_apart n x }

abbrev plain : As → As
plain a = record a { but = None }

-- an answer begins, and is set apart
begins_with : (a : As) (n : ℕ) (x : Answer) (s : State) → Holds (Pool (plain a)) s → Holds (Pool (but_for a n x)) (on_conn n (answered_by x) s)
begins_with a n x s h = fine_kept (plain a) (Some (n, x)) n (answered_by x) s (record {
  number = λ k. refl;
  line = λ k. refl;
  going = λ k y at is. let e : x ≡ y = cc is in inr (inr (subst (λ z. set_apart n x ≡ set_apart k.number z) e (ap (λ m. set_apart m x) (sym at))));
  unread = λ k. inr nothing_read;
}) (λ m y apart none. absurd (cc none)) (λ k y i at is was. let e : x ≡ y = cc is in inr (subst (λ z. set_apart n x ≡ set_apart k.number z) e (ap (λ m. set_apart m x) (sym at)))) h

-- the answer that was set apart is over
answer_over : (a : As) (n : ℕ) (x : Answer) (head : Response) (s : State) → Holds (Pool (but_for a n x)) s → Holds (Pool (plain a)) (on_conn n (rested head) s)
answer_over a n x head s h = fine_kept (but_for a n x) None n (rested head) s (record {
  number = λ k. refl;
  line = λ k. refl;
  going = λ k y at is. absurd (cc is);
  unread = λ k. inr nothing_read;
}) (λ m y apart e. let number : n ≡ m = same_first e in absurd (apart (sym number))) (λ k y i at is was. absurd (cc is)) h

-- it goes on with more
answer_goes : (a : As) (n : ℕ) (x : Answer) (s : State) → GoesOn x → Holds (Pool (plain a)) s → Holds (Pool (plain a)) (on_conn n (λ k. record k { answer = Some x }) s)
answer_goes a n x s on h = fine_kept (plain a) None n (λ k. record k { answer = Some x }) s (record {
  number = λ k. refl;
  line = λ k. refl;
  going = λ k y at is. let e : x ≡ y = cc is in inr (inl (subst GoesOn e on));
  unread = λ k. inl refl;
}) (λ m y apart none. absurd (cc none)) (λ k y i at is was. let e : x ≡ y = cc is in inl (subst GoesOn e on)) h

-- more of a head came
head_goes : (a : As) (n : ℕ) (bytes : Bytes) (s : State) → response_at bytes ≡ More → Holds (Pool (plain a)) s → Holds (Pool (plain a)) (on_conn n (with_unread bytes) s)
head_goes a n bytes s more h = fine_kept (plain a) None n (with_unread bytes) s (record {
  number = λ k. refl;
  line = λ k. refl;
  going = λ k y at is. inl is;
  unread = λ k. inr more;
}) (λ m y apart none. absurd (cc none)) (λ k y i at is was. (facts_of h).going k y i was) h

-- where it goes on none is set apart
goes_as_others : (a : As) (n : ℕ) (x : Answer) (s : State) → GoesOn x → Holds (Pool (but_for a n x)) s → Holds (Pool (plain a)) s
goes_as_others a n x s on h = holds (record {
  set = (facts_of h).set;
  at = (facts_of h).at;
  owes = (facts_of h).owes;
  few = (facts_of h).few;
  apart = (facts_of h).apart;
  near = (facts_of h).near;
  going = λ k y i is. inl (by k y ((facts_of h).going k y i is));
  unread = (facts_of h).unread;
  lined = (facts_of h).lined;
})
  where
    by : (k : Conn) (y : Answer) → GoesOn y ⊎ (set_apart n x ≡ set_apart k.number y) → GoesOn y
    by k y (inl goes) = goes
    by k y (inr e) = let one : x ≡ y = same_second e in subst GoesOn one on

-- ---- data join

-- of one connection's line, so many asks; and so many chunks
abbrev watched : ℕ → ℕ → Option (ℕ × ℕ)
watched n asks = Some (n, asks)

abbrev reading : As → ℕ → ℕ → ℕ → As
reading a n asks most = record { settings = a.settings; phase = a.phase; owed = a.owed; most = most; but = None; line = Some (n, asks) }

or_true : (t : Bool) → (t || true) ≡ true
or_true true = refl
or_true false = refl

or_still : (t u : Bool) → t ≡ true → (t || u) ≡ true
or_still true u is = refl
or_still false u is = absurd (cc is)

below_trigger : (high critical n : ℕ) → nat_le (min high (critical - 31)) n ≡ false → n ≤ critical - 32
below_trigger high critical n isnt = by (nat_le (min high (critical - 31)) n) refl isnt (min-le_right high (critical - 31))
  where
    by : (t : Bool) → nat_le (min high (critical - 31)) n ≡ t → t ≡ false → min high (critical - 31) ≤ critical - 31 → n ≤ critical - 32
    by true is at le = absurd (cc at)
    by false is at le = grind (arith, nat_tests)

-- the trigger is looked at once they joined
used_near : (a : As) (s : State) → s.settings ≡ a.settings → IsNear a.settings (s.is_evicting || nat_le (trigger s) (length s.chunks)) s.chunks
used_near a s set = by (nat_le (trigger s) (length s.chunks)) refl
  where
    by : (t : Bool) → nat_le (trigger s) (length s.chunks) ≡ t → IsNear a.settings (s.is_evicting || t) s.chunks
    by true is = inl (or_true s.is_evicting)
    by false isnt = inr (subst (λ (c : Settings). length s.chunks ≤ calm c) set (below_trigger s.settings.high s.settings.critical (length s.chunks) isnt))

-- chunks that came, and the trigger looked at
pub came_near : (a : As) (most : ℕ) (chunks : List Chunk) (s : State) → length chunks ≤ most → AreApart chunks → Holds (Pool a) s → Holds (Pool (record a { most = most })) (note_use (record s { chunks = chunks }))
unfolding note_use
came_near a most chunks s few apart h = holds (record {
  set = (facts_of h).set;
  at = (facts_of h).at;
  owes = (facts_of h).owes;
  few = few;
  apart = apart;
  near = used_near a (record s { chunks = chunks }) (facts_of h).set;
  going = (facts_of h).going;
  unread = (facts_of h).unread;
  lined = (facts_of h).lined;
})

-- more chunks, and a longer line
pub wider : (a : As) (n asks asks2 most most2 : ℕ) (s : State) → asks ≤ asks2 → most ≤ most2 → Holds (Pool (reading a n asks most)) s → Holds (Pool (reading a n asks2 most2)) s
wider a n asks asks2 most most2 s one two h = holds (record {
  set = (facts_of h).set;
  at = (facts_of h).at;
  owes = (facts_of h).owes;
  few = le_trans (facts_of h).few two;
  apart = (facts_of h).apart;
  near = (facts_of h).near;
  going = (facts_of h).going;
  unread = (facts_of h).unread;
  lined = λ m most3 k is found. by m most3 k is found;
})
  where
    by : (m most3 : ℕ) (k : Conn) → watched n asks2 ≡ watched m most3 → find (is_conn m) s.conns ≡ Some k → length k.line ≤ most3
    by m most3 k is found = let number : n ≡ m = same_first is in let bound : asks2 ≡ most3 = same_second is in subst (λ x. length k.line ≤ x) bound (le_trans ((facts_of h).lined m asks k (ap (λ x. watched x asks) number) found) one)

-- as many as these bytes may bring
abbrev with_data : ℕ → Bytes → ℕ
with_data most bytes = most + (length bytes / 4096 + 2)

join-pool : (a : As) (n asks most : ℕ) (b : Bound) (bytes : Bytes) (s : State) → Holds (Pool (reading a n asks most)) s → Holds (Pool (reading a n asks (with_data most bytes))) (join b bytes s)
unfolding join
join-pool a n asks most b bytes s h = each_of _ (wider a n asks asks most (with_data most bytes) s (le_refl asks) (omega arith) h) (λ x. came_near (reading a n asks most) (with_data most bytes) (joined x.id (extent_of s x) b.next bytes s.chunks) s (few x) (joined_apart x.id (extent_of s x) b.next bytes s.chunks (facts_of h).apart) h)
  where
    few : (x : Instance) → length (joined x.id (extent_of s x) b.next bytes s.chunks) ≤ with_data most bytes
    few x = let j = joined_few x.id (extent_of s x) b.next bytes s.chunks in let le : length s.chunks ≤ most = (facts_of h).few in omega arith

moved_same : (m : ℕ) (e : Exchange) → SameAsk (moved_on m e) e
moved_same m e = by (bound_of e)
  where
    by : (o : Option Bound) → SameAsk (elim o as (λ c. Exchange) [ None ↦ e | Some b ↦ record e { body = Joining (record b { next = b.next + m }) } ]) e
    by None = same_ask e e refl refl refl refl refl refl
    by (Some b) = same_ask _ e refl refl refl refl refl refl

join_bound-pool : (a : As) (n asks most : ℕ) (e : Exchange) (bytes : Bytes) (s : State) → Holds (Pool (reading a n asks most)) s → Holds (Pool (reading a n asks (with_data most bytes))) (join_bound e bytes s)
unfolding join_bound
join_bound-pool a n asks most e bytes s h =
    each_of (bound_of e) (wider a n asks asks most (with_data most bytes) s (le_refl asks) (omega arith) h)
    (λ b. on_exchange-keeps (pool_walk (reading a n asks (with_data most bytes))) e.number (moved_on (length bytes)) _ (moved_same (length bytes)) (join-pool a n asks most b bytes s h))

note_own-pool : (a : As) (e : Exchange) (x : Answer) (at : ℕ) (bytes : Bytes) (s : State) → Holds (Pool a) s → Holds (Pool a) (note_own e x at bytes s)
unfolding note_own
note_own-pool a e x at bytes s h = when (is_empty bytes) h (holds (facts_of h))

note_sent-pool : (a : As) (e : Exchange) (x : Answer) (at : ℕ) (bytes : Bytes) (s : State) → Holds (Pool a) s → Holds (Pool a) (note_sent e x at bytes s)
unfolding note_sent
note_sent-pool a e x at bytes s h = by_aim_of e.aim h (note_own-pool a e x at bytes s h) (λ v from to. note_own-pool a e x at bytes s h)

deliver-pool : (a : As) (n asks most : ℕ) (e : Exchange) (x : Answer) (at : ℕ) (bytes : Bytes) (s : State) → Holds (Pool (reading a n asks most)) s → Holds (Pool (reading a n asks (with_data most bytes))) (deliver e x at bytes s)
unfolding deliver
deliver-pool a n asks most e x at bytes s h = pour-keeps (pool_walk (reading a n asks (with_data most bytes))) e (poured bytes) _ (join_bound-pool a n asks most e bytes _ (note_sent-pool (reading a n asks most) e x at bytes s h))

-- ---- connections stay as they are

same_when : (s : State) (t : Bool) (x y : State) → x.conns ≡ s.conns → y.conns ≡ s.conns → (elim t as (λ c. State) [ true ↦ x | false ↦ y ]).conns ≡ s.conns
same_when s true x y hx hy = hx
same_when s false x y hx hy = hy

same_each : {A : Type 0} (s : State) (o : Option A) (x : State) (y : A → State) → x.conns ≡ s.conns → ((i : A) → (y i).conns ≡ s.conns) → (elim o as (λ c. State) [ None ↦ x | Some i ↦ y i ]).conns ≡ s.conns
same_each s None x y hx hy = hx
same_each s (Some i) x y hx hy = hy i

same_aim : (s : State) (aim : Aim) (x y : State) (z : Version → ℕ → ℕ → State) → x.conns ≡ s.conns → y.conns ≡ s.conns → ((v : Version) (from to : ℕ) → (z v from to).conns ≡ s.conns)
    → (elim aim as (λ c. State) [ Through ↦ x | Own ↦ y | Filling v from to ↦ z v from to ]).conns ≡ s.conns
same_aim s Through x y z hx hy hz = hx
same_aim s Own x y z hx hy hz = hy
same_aim s (Filling v from to) x y z hx hy hz = hz v from to

pour-conns : (e : Exchange) (f : Pipe → Pipe) (s : State) → (pour e f s).conns ≡ s.conns
unfolding pour on_client_of
pour-conns e f s = refl

skip_body-conns : (e : Exchange) (s : State) → (skip_body e s).conns ≡ s.conns
unfolding skip_body on_client_of
skip_body-conns e s = same_aim s e.aim _ _ _ refl refl (λ v from to. refl)

note_own-conns : (e : Exchange) (x : Answer) (at : ℕ) (bytes : Bytes) (s : State) → (note_own e x at bytes s).conns ≡ s.conns
unfolding note_own
note_own-conns e x at bytes s = same_when s (is_empty bytes) _ _ refl refl

note_sent-conns : (e : Exchange) (x : Answer) (at : ℕ) (bytes : Bytes) (s : State) → (note_sent e x at bytes s).conns ≡ s.conns
unfolding note_sent
note_sent-conns e x at bytes s = same_aim s e.aim _ _ _ refl (note_own-conns e x at bytes s) (λ v from to. note_own-conns e x at bytes s)

join-conns : (b : Bound) (bytes : Bytes) (s : State) → (join b bytes s).conns ≡ s.conns
unfolding join note_use
join-conns b bytes s = same_each s (joined_one b bytes s) _ _ refl (λ x. refl)

join_bound-conns : (e : Exchange) (bytes : Bytes) (s : State) → (join_bound e bytes s).conns ≡ s.conns
unfolding join_bound on_exchange
join_bound-conns e bytes s = same_each s (bound_of e) _ _ refl (λ b. join-conns b bytes s)

pub deliver-conns : (e : Exchange) (x : Answer) (at : ℕ) (bytes : Bytes) (s : State) → (deliver e x at bytes s).conns ≡ s.conns
unfolding deliver
deliver-conns e x at bytes s = pour-conns e (poured bytes) _ ∙ join_bound-conns e bytes _ ∙ note_sent-conns e x at bytes s

-- ---- a response is whole

-- its exchange is out of the line
out_of_line : (a : As) (n asks most : ℕ) (m : ℕ) (rest : List ℕ) (k : Conn) (s : State) → conn s n ≡ Some k → k.line ≡ m ∷ rest → Holds (Pool (reading a n asks most)) s → Holds (Pool (reading a n (asks - 1) most)) (end_exchange m s)
unfolding end_exchange
out_of_line a n asks most m rest k s found line h = holds (record {
  set = (facts_of over).set;
  at = (facts_of over).at;
  owes = (facts_of over).owes;
  few = (facts_of over).few;
  apart = (facts_of over).apart;
  near = (facts_of over).near;
  going = (facts_of over).going;
  unread = (facts_of over).unread;
  lined = λ o most2 j is there. by o most2 j is there;
})
  where
    over : Holds (Pool (reading a n asks most)) (end_exchange m s)
    over = end_exchange-keeps (pool_walk (reading a n asks most)) m s h

    less : length (filter (λ x. not (x == m)) (m ∷ rest)) ≤ length rest
    less = of (m == m) (number_same m)
      where
        of : (t : Bool) → t ≡ true → length (cond (not t) (m ∷ filter (λ x. not (x == m)) rest) (filter (λ x. not (x == m)) rest)) ≤ length rest
        of true is = length-filter (λ x. not (x == m)) rest
        of false is = absurd (cc is)

    longest : length (m ∷ rest) ≤ asks
    longest = subst (λ (ns : List ℕ). length ns ≤ asks) line ((facts_of h).lined n asks k refl found)

    short : (j : Conn) → k ≡ j → length (filter (λ x. not (x == m)) j.line) ≤ asks - 1
    short j e = subst (λ (ns : List ℕ). length (filter (λ x. not (x == m)) ns) ≤ asks - 1) (sym line ∙ ap (λ (c : Conn). c.line) e) (let le = less in let le2 = longest in omega arith)

    by : (o most2 : ℕ) (j : Conn) → watched n (asks - 1) ≡ watched o most2 → find (is_conn o) (map (without_ask m) s.conns) ≡ Some j → length j.line ≤ most2
    by o most2 j is there =
        let number : n ≡ o = same_first is in
        let bound : asks - 1 ≡ most2 = same_second is in
        let w = find_map n (without_ask m) s.conns j (λ c. refl) (subst (λ x. find (is_conn x) (map (without_ask m) s.conns) ≡ Some j) (sym number) there) in
        let same_one : k ≡ w.0 = same_in (sym found ∙ w.1) in
        subst (λ x. length j.line ≤ x) bound (subst (λ (c : Conn). length c.line ≤ asks - 1) (sym w.2) (short w.0 same_one))

finish-pool : (a : As) (n asks most : ℕ) (rest : List ℕ) (k : Conn) (e : Exchange) (x : Answer) (s : State) → conn s n ≡ Some k → k.line ≡ e.number ∷ rest → Holds (Pool (reading a n asks most)) s
    → Holds (Pool (reading a n (asks - 1) most)) (finish k e x s)
unfolding finish
finish-pool a n asks most rest k e x s found line h = when (may_go_on e x.head) done (close_this-keeps (pool_walk (reading a n (asks - 1) most)) k.number _ done)
  where
    quiet : State
    quiet = skip_body e (pour e finished s)

    still : conn quiet n ≡ Some k
    still = ap (λ (ks : List Conn). find (is_conn n) ks) (skip_body-conns e (pour e finished s) ∙ pour-conns e finished s) ∙ found

    over : Holds (Pool (reading a n (asks - 1) most)) (end_exchange e.number quiet)
    over = out_of_line a n asks most e.number rest k quiet still line (skip_body-keeps (pool_walk (reading a n asks most)) e _ (pour-keeps (pool_walk (reading a n asks most)) e finished s h))

    done : Holds (Pool (reading a n (asks - 1) most)) (on_conn k.number (rested x.head) (end_exchange e.number quiet))
    done = on_conn-keeps (pool_walk (reading a n (asks - 1) most)) k.number (rested x.head) _ (lesser_rested x.head) over

-- ---- heads

-- the answer that was set apart ended at once
finish_apart : (a : As) (k : Conn) (e : Exchange) (x : Answer) (s : State) → Holds (Pool (but_for a k.number x)) s → Holds (Pool (plain a)) (finish k e x s)
unfolding finish
finish_apart a k e x s h = when (may_go_on e x.head) done (close_this-keeps (pool_walk (plain a)) k.number _ done)
  where
    w : Walk (Pool (but_for a k.number x))
    w = pool_walk (but_for a k.number x)

    done : Holds (Pool (plain a)) (on_conn k.number (rested x.head) (end_exchange e.number (skip_body e (pour e finished s))))
    done = answer_over a k.number x x.head _ (end_exchange-keeps w e.number _ (skip_body-keeps w e _ (pour-keeps w e finished s h)))

end_if_empty-pool : (a : As) (k : Conn) (e : Exchange) (x : Answer) (s : State) → x.raw ≡ [] → Holds (Pool (but_for a k.number x)) s → Holds (Pool (plain a)) (end_if_empty k e x s)
unfolding end_if_empty
end_if_empty-pool a k e x s none h = by (body_of x.rule []).outcome refl
  where
    by : (o : Outcome) → (body_of x.rule []).outcome ≡ o → Holds (Pool (plain a)) (elim o as (λ c. State) [ Done rest ↦ finish k e x s | Going ↦ s | Bad ↦ s ])
    by (Done rest) is = finish_apart a k e x s h
    by Going is = goes_as_others a k.number x s (ap (λ (bytes : Bytes). (body_of x.rule bytes).outcome) none ∙ is) h
    by Bad is = absurd (nothing_bad x.rule is)

begin_answer-pool : (a : As) (k : Conn) (e : Exchange) (head : Response) (rule : BodyRule) (s : State) → Holds (Pool (plain a)) s → Holds (Pool (plain a)) (begin_answer k e head rule s)
unfolding begin_answer
begin_answer-pool a k e head rule s h =
    end_if_empty-pool a k e (answer_with e head rule) _ refl (by_aim-keeps (pool_walk (but_for a k.number (answer_with e head rule))) e head rule _ (begins_with a k.number (answer_with e head rule) s h))

answer_for-pool : (a : As) (k : Conn) (e : Exchange) (head : Response) (s : State) → Holds (Pool (plain a)) s → Holds (Pool (plain a)) (answer_for k e head s)
unfolding answer_for
answer_for-pool a k e head s h = when (is_wrong_head e head) (bad_head-keeps (pool_walk (plain a)) k s h) (by_rule (rule_of (asks_head e) head.status head.fields))
  where
    by_rule : (read : Result BodyRule ResponseFault) → Holds (Pool (plain a)) (elim read as (λ c. State) [ Ok rule ↦ begin_answer k e head rule s | Err fault ↦ bad_head k s ])
    by_rule (Ok rule) = begin_answer-pool a k e head rule s h
    by_rule (Err fault) = bad_head-keeps (pool_walk (plain a)) k s h

head_came-pool : (a : As) (k : Conn) (head : Response) (s : State) → Holds (Pool (plain a)) s → Holds (Pool (plain a)) (head_came k head s)
unfolding head_came
head_came-pool a k head s h = each_of (front_of_line s k) (close_conn-keeps (pool_walk (plain a)) false k s h) (λ e. answer_for-pool a k e head _ (bring_row-keeps (pool_walk (plain a)) e head s h))

-- ---- pieces

-- so many chunks, what follows and the line have room
record Fits (a : As) (n critical : ℕ) (p : Piece) : Type 0 where
  asks : ℕ
  most : ℕ
  kept : Holds (Pool (reading a n asks most)) p.state
  fits : (4096 * most + length p.rest + 8192 * asks ≤ 4096 * critical) ⊎ ((p.rest ≡ []) × (most ≤ critical))

quiet_piece : (a : As) (n critical asks most : ℕ) (p : Piece) (bytes : Bytes) → 4096 * most + length bytes + 8192 * asks ≤ 4096 * critical → length p.rest ≤ length bytes → Holds (Pool (reading a n asks most)) p.state → Fits a n critical p
quiet_piece a n critical asks most p bytes room le h = record { asks = asks; most = most; kept = h; fits = inl (omega arith) }

at_most : (m n : ℕ) → nat_le m n ≡ true → m ≤ n
at_most m n is = grind (arith, nat_tests)

beyond : (m n : ℕ) → nat_le m n ≡ false → n < m
beyond m n isnt = grind (arith, nat_tests)

-- a head that more bytes made whole takes some of them
pub head_beyond : (unread bytes : Bytes) (head : Response) → response_at unread ≡ More → response_at (unread ++ bytes) ≡ Whole head → length unread < head.length
head_beyond unread bytes head more whole = by (nat_le head.length (length unread)) refl
  where
    taken : response_at (take head.length (unread ++ bytes)) ≡ Whole head
    taken = (response_cut (unread ++ bytes) head whole).enough

    stays : (o : Read Response) → response_at (take head.length (unread ++ bytes)) ≡ o → Stays response_at (take head.length (unread ++ bytes)) o → o ≡ Whole head → (rest : Bytes) → response_at (take head.length (unread ++ bytes) ++ rest) ≡ Whole head
    stays (Whole r) is all e rest = all rest ∙ e
    stays TooLong is all e rest = absurd (cc e)
    stays NoHead is all e rest = absurd (cc e)
    stays More is all e rest = absurd (cc e)

    earlier : head.length ≤ length unread → response_at unread ≡ Whole head
    earlier le =
        subst (λ (xs : Bytes). response_at xs ≡ Whole head) (ap (λ (xs : Bytes). xs ++ drop head.length unread) (take-append-le head.length unread bytes le) ∙ take-append-drop head.length unread)
        (stays (response_at (take head.length (unread ++ bytes))) refl (response_stays (take head.length (unread ++ bytes))) taken (drop head.length unread))

    by : (t : Bool) → nat_le head.length (length unread) ≡ t → length unread < head.length
    by true is = let both : Whole head ≡ More = sym (earlier (at_most head.length (length unread) is)) ∙ more in absurd (cc both)
    by false isnt = beyond head.length (length unread) isnt

-- and ends among them
head_ends : (unread bytes : Bytes) (head : Response) → response_at unread ≡ More → response_at (unread ++ bytes) ≡ Whole head → length (drop head.length (unread ++ bytes)) ≤ length bytes
head_ends unread bytes head more whole = let gt : length unread < head.length = head_beyond unread bytes head more whole in omega (arith, length-drop head.length (unread ++ bytes), length-append unread bytes)

piece_when : (a : As) (n critical : ℕ) (t : Bool) (p q : Piece) → Fits a n critical p → Fits a n critical q → Fits a n critical (elim t as (λ c. Piece) [ true ↦ p | false ↦ q ])
piece_when a n critical true p q hp hq = hp
piece_when a n critical false p q hp hq = hq

head_piece-fits : (a : As) (n critical asks most : ℕ) (k : Conn) (bytes : Bytes) (s : State) → IsIn k s.conns → 4096 * most + length bytes + 8192 * asks ≤ 4096 * critical → Holds (Pool (reading a n asks most)) s
    → Fits a n critical (head_piece k bytes s)
head_piece-fits a n critical asks most k bytes s i room h = piece_when a n critical (is_early s k) _ _ (quiet_piece a n critical asks most _ bytes room zero-le (close_conn-keeps w true k s h)) (by (response_at (k.unread ++ bytes)) refl)
  where
    w : Walk (Pool (reading a n asks most))
    w = pool_walk (reading a n asks most)

    whole : (head : Response) → response_at (k.unread ++ bytes) ≡ Whole head → length (drop head.length (k.unread ++ bytes)) ≤ length bytes
    whole head is = head_ends k.unread bytes head ((facts_of h).unread k i) is

    by : (read : Read Response) → response_at (k.unread ++ bytes) ≡ read → Fits a n critical (elim read as (λ c. Piece) [
      | More ↦ record { state = on_conn k.number (with_unread (k.unread ++ bytes)) s; rest = [] }
      | TooLong ↦ record { state = bad_head k s; rest = [] }
      | NoHead ↦ record { state = bad_head k s; rest = [] }
      | Whole head ↦ elim (is_interim head.status) as (λ c. Piece) [
        | true ↦ record { state = on_conn k.number (with_unread []) s; rest = drop head.length (k.unread ++ bytes) }
        | false ↦ record { state = head_came k head s; rest = drop head.length (k.unread ++ bytes) }
      ]
    ])
    by More is = quiet_piece a n critical asks most _ bytes room zero-le (head_goes (reading a n asks most) k.number (k.unread ++ bytes) s is h)
    by TooLong is = quiet_piece a n critical asks most _ bytes room zero-le (bad_head-keeps w k s h)
    by NoHead is = quiet_piece a n critical asks most _ bytes room zero-le (bad_head-keeps w k s h)
    by (Whole head) is = piece_when a n critical (is_interim head.status) _ _
        (quiet_piece a n critical asks most _ bytes room (whole head is) (head_goes (reading a n asks most) k.number [] s nothing_read h))
        (quiet_piece a n critical asks most _ bytes room (whole head is) (head_came-pool (reading a n asks most) k head s h))

-- the first of a line
front_is : (s : State) (line : List ℕ) (e : Exchange) → (elim line as (λ c. Option Exchange) [ [] ↦ None | n ∷ ns ↦ exchange s n ]) ≡ Some e → (rest : List ℕ) × (line ≡ e.number ∷ rest)
front_is s [] e is = absurd (cc is)
front_is s (n ∷ ns) e is = (ns, ap (λ m. m ∷ ns) (sym (same_number e.number n (in_find (is_exchange n) e s.exchanges is).1)))

goes_alone : (k : Conn) (x : Answer) → GoesOn x ⊎ (no_answer ≡ set_apart k.number x) → GoesOn x
goes_alone k x (inl on) = on
goes_alone k x (inr none) = absurd (cc none)

body_piece_of-fits : (a : As) (n critical asks most : ℕ) (k : Conn) (x : Answer) (e : Exchange) (rest : List ℕ) (bytes : Bytes) (s : State) → conn s n ≡ Some k → k.line ≡ e.number ∷ rest → GoesOn x
    → 4096 * most + length bytes + 8192 * asks ≤ 4096 * critical → Holds (Pool (reading a n asks most)) s → Fits a n critical (body_piece_of k x e bytes s)
body_piece_of-fits a n critical asks most k x e rest bytes s found line on room h = by body.outcome refl
  where
    body : Body
    body = body_of x.rule (x.raw ++ bytes)

    at : ℕ
    at = length (payload_of x)

    fresh : Bytes
    fresh = drop at body.payload

    t : State
    t = deliver e x at fresh s

    more : ℕ
    more = with_data most fresh

    came : Holds (Pool (reading a n asks more)) t
    came = deliver-pool a n asks most e x at fresh s h

    there : conn t n ≡ Some k
    there = ap (λ (ks : List Conn). find (is_conn n) ks) (deliver-conns e x at fresh s) ∙ found

    weighs : length fresh + left_by body.outcome ≤ length bytes
    weighs = let grew : at ≤ length body.payload = payload-grows x.rule x.raw bytes in let w : length body.payload + left_by body.outcome ≤ at + length bytes = body_weighs x.rule x.raw bytes on in omega (arith, length-drop at body.payload)

    some : 1 ≤ asks
    some = let le : length (e.number ∷ rest) ≤ asks = subst (λ (ns : List ℕ). length ns ≤ asks) line ((facts_of h).lined n asks k refl found) in omega arith

    runs : 4096 * (length fresh / 4096) ≤ length fresh
    runs = mul-div-le (length fresh) 4096

    last : more ≤ critical
    last = let a1 = weighs in let a2 = some in let a3 = runs in omega (arith, room)

    by : (o : Outcome) → body.outcome ≡ o → Fits a n critical (elim o as (λ c. Piece) [
      | Going ↦ record { state = on_conn k.number (λ i. record i { answer = Some (record x { raw = x.raw ++ bytes }) }) t; rest = [] }
      | Bad ↦ record { state = bad_response k t; rest = [] }
      | Done after ↦ record { state = finish k e x t; rest = after }
    ])
    by Going is = record { asks = asks; most = more; kept = answer_goes (reading a n asks more) k.number (record x { raw = x.raw ++ bytes }) t is came; fits = inr (refl, last) }
    by Bad is = record { asks = asks; most = more; kept = bad_response-keeps (pool_walk (reading a n asks more)) k t came; fits = inr (refl, last) }
    by (Done after) is = record { asks = asks - 1; most = more; kept = finish-pool a n asks more rest k e x t there line came; fits = inl (let a1 : length fresh + length after ≤ length bytes = subst (λ o. length fresh + left_by o ≤ length bytes) is weighs in let a2 = some in let a3 = runs in omega (arith, room)) }

next_piece-fits : (a : As) (n critical asks most : ℕ) (k : Conn) (bytes : Bytes) (s : State) → conn s n ≡ Some k → 4096 * most + length bytes + 8192 * asks ≤ 4096 * critical → Holds (Pool (reading a n asks most)) s
    → Fits a n critical (next_piece k bytes s)
next_piece-fits a n critical asks most k bytes s found room h = by k.answer refl
  where
    there : IsIn k s.conns
    there = (in_find (is_conn n) k s.conns found).0

    first : (x : Answer) → k.answer ≡ Some x → (o : Option Exchange) → front_of_line s k ≡ o → Fits a n critical (elim o as (λ c. Piece) [ None ↦ record { state = close_conn false k s; rest = [] } | Some e ↦ body_piece_of k x e bytes s ])
    first x is None none = quiet_piece a n critical asks most _ bytes room zero-le (close_conn-keeps (pool_walk (reading a n asks most)) false k s h)
    first x is (Some e) front = let w = front_is s k.line e front in body_piece_of-fits a n critical asks most k x e w.0 bytes s found w.1 (goes_alone k x ((facts_of h).going k x there is)) room h

    by : (answer : Option Answer) → k.answer ≡ answer → Fits a n critical (elim answer as (λ c. Piece) [ Some x ↦ body_piece k x bytes s | None ↦ head_piece k bytes s ])
    by None is = head_piece-fits a n critical asks most k bytes s there room h
    by (Some x) is = first x is (front_of_line s k) refl

-- ---- the read

-- the line is not looked at any more
abbrev read_all : As → ℕ → As
read_all a critical = record { settings = a.settings; phase = a.phase; owed = a.owed; most = critical; but = None; line = None }

put_down : (a : As) (n critical asks most : ℕ) (s : State) → most ≤ critical → Holds (Pool (reading a n asks most)) s → Holds (Pool (read_all a critical)) s
put_down a n critical asks most s le h = holds (record {
  set = (facts_of h).set;
  at = (facts_of h).at;
  owes = (facts_of h).owes;
  few = le_trans (facts_of h).few le;
  apart = (facts_of h).apart;
  near = (facts_of h).near;
  going = (facts_of h).going;
  unread = (facts_of h).unread;
  lined = λ m most2 k is. absurd (cc is);
})

-- behind the last byte nothing is read
got_nothing : (P : View → Type 0) (more n : ℕ) (s : State) → Holds P s → Holds P (got more n [] s)
unfolding got
got_nothing P zero n s h = h
got_nothing P (suc more) n s h = each_of (conn s n) h (λ k. closing k k.is_closing)
  where
    closing : (k : Conn) (t : Bool) → Holds P (elim (t || true) as (λ c. State) [ true ↦ s | false ↦ got more n (next_piece k [] s).rest (next_piece k [] s).state ])
    closing k true = h
    closing k false = h

pub got-pool : (a : As) (n critical more : ℕ) (bytes : Bytes) (asks most : ℕ) (s : State) → 4096 * most + length bytes + 8192 * asks ≤ 4096 * critical → Holds (Pool (reading a n asks most)) s
    → Holds (Pool (read_all a critical)) (got more n bytes s)
unfolding got
got-pool a n critical zero bytes asks most s room h = put_down a n critical asks most s (omega (arith, room)) h
got-pool a n critical (suc more) bytes asks most s room h = by (conn s n) refl (λ k fits. goes_on k fits (λ rest asks2 most2 t fits2 kept. got-pool a n critical more rest asks2 most2 t fits2 kept))
  where
    stop : Holds (Pool (read_all a critical)) s
    stop = put_down a n critical asks most s (omega (arith, room)) h

    Rest : Type 0
    Rest = (rest : Bytes) (asks2 most2 : ℕ) (t : State) → 4096 * most2 + length rest + 8192 * asks2 ≤ 4096 * critical → Holds (Pool (reading a n asks2 most2)) t → Holds (Pool (read_all a critical)) (got more n rest t)

    goes_on : (k : Conn) → Fits a n critical (next_piece k bytes s) → Rest → Holds (Pool (read_all a critical)) (got more n (next_piece k bytes s).rest (next_piece k bytes s).state)
    goes_on k f later = of f.fits
      where
        of : (4096 * f.most + length (next_piece k bytes s).rest + 8192 * f.asks ≤ 4096 * critical) ⊎ (((next_piece k bytes s).rest ≡ []) × (f.most ≤ critical)) → Holds (Pool (read_all a critical)) (got more n (next_piece k bytes s).rest (next_piece k bytes s).state)
        of (inl fits) = later (next_piece k bytes s).rest f.asks f.most (next_piece k bytes s).state fits f.kept
        of (inr w) = subst (λ (rest : Bytes). Holds (Pool (read_all a critical)) (got more n rest (next_piece k bytes s).state)) (sym w.0) (got_nothing (Pool (read_all a critical)) more n (next_piece k bytes s).state (put_down a n critical f.asks f.most (next_piece k bytes s).state w.1 f.kept))

    going : (k : Conn) → conn s n ≡ Some k → (t : Bool) → ((k : Conn) → Fits a n critical (next_piece k bytes s) → Holds (Pool (read_all a critical)) (got more n (next_piece k bytes s).rest (next_piece k bytes s).state))
        → Holds (Pool (read_all a critical)) (elim t as (λ c. State) [ true ↦ s | false ↦ got more n (next_piece k bytes s).rest (next_piece k bytes s).state ])
    going k found true rest = stop
    going k found false rest = rest k (next_piece-fits a n critical asks most k bytes s found room h)

    by : (o : Option Conn) → conn s n ≡ o → ((k : Conn) → Fits a n critical (next_piece k bytes s) → Holds (Pool (read_all a critical)) (got more n (next_piece k bytes s).rest (next_piece k bytes s).state))
        → Holds (Pool (read_all a critical)) (elim o as (λ c. State) [ None ↦ s | Some k ↦ elim (k.is_closing || is_empty bytes) as (λ c. State) [ true ↦ s | false ↦ got more n (next_piece k bytes s).rest (next_piece k bytes s).state ] ])
    by None none rest = stop
    by (Some k) found rest = going k found (k.is_closing || is_empty bytes) rest

-- a read of at most 32,768 bytes, where no line has more than 8 asks and there is room for 32 chunks
pub read-pool : (a : As) (n : ℕ) (bytes : Bytes) (s : State) → a.but ≡ None → a.most ≤ calm a.settings → 32 ≤ a.settings.critical → length bytes ≤ 32768 → ((k : Conn) → IsIn k s.conns → length k.line ≤ 8)
    → Holds (Pool a) s → Holds (Pool (read_all a a.settings.critical)) (got (length bytes) n bytes s)
read-pool a n bytes s none few marked short lines h = got-pool a n a.settings.critical (length bytes) bytes 8 (calm a.settings) s (omega (arith, short, marked)) (holds (record {
  set = (facts_of h).set;
  at = (facts_of h).at;
  owes = (facts_of h).owes;
  few = le_trans (facts_of h).few few;
  apart = (facts_of h).apart;
  near = (facts_of h).near;
  going = λ k x i is. going k x ((facts_of h).going k x i is);
  unread = (facts_of h).unread;
  lined = λ m most k is found. by m most k is found;
}))
  where
    going : (k : Conn) (x : Answer) → GoesOn x ⊎ (a.but ≡ Some (k.number, x)) → GoesOn x ⊎ (no_answer ≡ set_apart k.number x)
    going k x (inl on) = inl on
    going k x (inr e) = let both : no_answer ≡ set_apart k.number x = sym none ∙ e in absurd (cc both)

    by : (m most : ℕ) (k : Conn) → watched n 8 ≡ watched m most → find (is_conn m) s.conns ≡ Some k → length k.line ≤ most
    by m most k is found = let bound : 8 ≡ most = same_second is in subst (λ x. length k.line ≤ x) bound (lines k (in_find (is_conn m) k s.conns found).0)
