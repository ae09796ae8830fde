-- What is done to a client leaves the number of its request; its next request has the next one.
use Rattle.std.proofs.Common.{◌≡◌, refl, ℕ, ◌+◌, ◌-◌, nat_le, Bool, true, false, ◌||◌, [], ◌&&◌, not, ◌++◌, drop, length, Option, Some, None}
use Rattle.pp_pass.specs.Pipe.{without_first}
use Rattle.pp_text.specs.Bytes.{is_empty}
use Rattle.pp_world.specs.declared.note.Decision.TheVariants.{Pass}
use Rattle.pp_world.specs.declared.note.Decision.{Decision}
use Rattle.pp_law.specs.Connections.{without_row, without_shared_row}
use Rattle.pp_law.specs.Hearing.{heard_by, what_counts, with_front}
use Rattle.pp_law.specs.Lists.{Bytes}
use Rattle.pp_law.specs.Offers.{has_to_say}
use Rattle.pp_law.specs.Replies.{begun_at_end, begun_by, begun_instance, begun_passed, is_regained, may_begin, next_request, regained_by, said_by, said_of, said_of_body}
use Rattle.pp_law.specs.Requests.{Front, Parsed, NoHeadYet, NoHead, IsRequest}
use Rattle.pp_law.specs.Stages.{is_begun, is_passing, on_passed, passed_of, reply_of}
use Rattle.pp_law.specs.State.{State, Client, Passed, Stage, Undecided, Waiting, Passing, Answering, Reply}
use Rattle.pp_law.specs.Table.{source_of}
use Rattle.pp_law.specs.Turn.{waits_for_exchange, woken_client}

-- ---- by cases

by_test : (i : ℕ) (t : Bool) (x y : Client) → x.index ≡ i → y.index ≡ i → (elim t as (λ c. Client) [ true ↦ x | false ↦ y ]).index ≡ i
by_test i true x y hx hy = hx
by_test i false x y hx hy = hy

by_some : {A : Type 0} (i : ℕ) (o : Option A) (x : Client) (y : A → Client) → x.index ≡ i → ((a : A) → (y a).index ≡ i) → (elim o as (λ c. Client) [ None ↦ x | Some a ↦ y a ]).index ≡ i
by_some i None x y hx hy = hx
by_some i (Some a) x y hx hy = hy a

by_request : (i : ℕ) (f : Front) (x : Client) (y : ℕ → Client) (z : Parsed → Client) → x.index ≡ i → ((n : ℕ) → (y n).index ≡ i) → ((r : Parsed) → (z r).index ≡ i)
    → (elim f as (λ c. Client) [ NoHeadYet ↦ x | NoHead status ↦ y status | IsRequest r ↦ z r ]).index ≡ i
by_request i NoHeadYet x y z hx hy hz = hx
by_request i (NoHead status) x y z hx hy hz = hy status
by_request i (IsRequest r) x y z hx hy hz = hz r

by_stage : (i : ℕ) (stage : Stage) (x y z : Client) (w : Reply → Client) → x.index ≡ i → y.index ≡ i → z.index ≡ i → ((r : Reply) → (w r).index ≡ i)
    → (elim stage as (λ c. Client) [ Undecided ↦ x | Waiting ↦ y | Passing ↦ z | Answering r ↦ w r ]).index ≡ i
by_stage i Undecided x y z w hx hy hz hw = hx
by_stage i Waiting x y z w hx hy hz hw = hy
by_stage i Passing x y z w hx hy hz hw = hz
by_stage i (Answering r) x y z w hx hy hz hw = hw r

-- ---- what is done to it

pub index_at : (f : Client → Client) (c : Client) (t : Bool) → (f c).index ≡ c.index → (elim t as (λ d. Client) [ true ↦ f c | false ↦ c ]).index ≡ c.index
index_at f c t is = by_test c.index t _ _ is refl

pub without_row-index : (c : Client) → (without_row c).index ≡ c.index
without_row-index c = by_test c.index (is_begun c || c.has_given_up) _ _ refl refl

pub without_shared_row-index : (most : ℕ) (c : Client) → (without_shared_row most c).index ≡ c.index
without_shared_row-index most c = by_test c.index (c.has_given_up && not (is_begun c)) _ _ refl (without_row-index c)

pub on_passed-index : (f : Passed → Passed) (c : Client) → (on_passed f c).index ≡ c.index
on_passed-index f c = by_some c.index (passed_of c) _ _ refl (λ p. refl)

with_front-index : (c : Client) → (with_front c).index ≡ c.index
with_front-index c = by_request c.index c.front _ _ _ refl (λ status. refl) (λ r. refl)

pub heard_by-index : (bytes : Bytes) (c : Client) → (heard_by bytes c).index ≡ c.index
heard_by-index bytes c = with_front-index (record c { heard = c.heard ++ what_counts c.front (drop c.skip bytes); skip = c.skip - length bytes })

pub next_request-index : (c : Client) → (next_request c).index ≡ c.index + 1
next_request-index c = refl

said_of_body-index : (n : ℕ) (r : Reply) (c : Client) → (said_of_body n r c).index ≡ c.index
said_of_body-index n r c = by_test c.index (is_passing r.decision) _ _ (on_passed-index (λ p. record p { pipe = without_first n p.pipe }) (record c { stage = Answering r })) refl

said_of-index : (n : ℕ) (r : Reply) (c : Client) → (said_of n r c).index ≡ c.index
said_of-index n r c = by_test c.index (nat_le n (length r.head_left)) _ _ refl (said_of_body-index (n - length r.head_left) (record r { head_left = [] }) c)

pub said_by-index : (n : ℕ) (c : Client) → (said_by n c).index ≡ c.index
said_by-index n c = by_test c.index (is_empty c.interim_left) _ _ (by_some c.index (reply_of c) _ _ refl (λ r. said_of-index n r c)) refl

begun_passed-index : (s : State) (r : Parsed) (d : Decision) (c : Client) → (begun_passed s r d c).index ≡ c.index
begun_passed-index s r d c = by_some c.index (passed_of c) _ _ refl (λ p. refl)

begun_instance-index : (s : State) (r : Parsed) (reply : Reply) (c : Client) → (begun_instance s r reply c).index ≡ c.index
begun_instance-index s r reply c = by_some c.index (source_of s reply) _ _ refl (λ x. by_test c.index (may_begin s reply x) _ _ refl refl)

begun_by-index : (s : State) (r : Parsed) (c : Client) → (begun_by s r c).index ≡ c.index
begun_by-index s r c =
    by_stage c.index c.stage _ _ _ _ refl refl (begun_passed-index s r Pass c)
    (λ reply. by_test c.index reply.has_begun _ _ refl (by_test c.index (is_passing reply.decision) _ _ (begun_passed-index s r reply.decision c) (begun_instance-index s r reply c)))

pub begun_at_end-index : (s : State) (c : Client) → (begun_at_end s c).index ≡ c.index
begun_at_end-index s c = by_test c.index c.is_closing _ _ refl (by_request c.index c.front _ _ _ refl (λ status. refl) (λ r. begun_by-index s r c))

pub regained_by-index : (s : State) (c : Client) → (regained_by s c).index ≡ c.index
regained_by-index s c = by_test c.index (is_regained s c) _ _ refl refl

pub woken_client-index : (now : ℕ) (s : State) (c : Client) → (woken_client now s c).index ≡ c.index
woken_client-index now s c = by_test c.index (waits_for_exchange s c && not (has_to_say s c)) _ _ refl refl
