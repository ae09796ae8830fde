-- Bytes that are said to a client leave what it follows, how its exchange fares, that more of it comes, and the request behind it.
use Rattle.std.proofs.Common.{◌≡◌, refl, sym, ap, ◌∙◌, ℕ, ◌-◌, ◌+◌, Bool, true, false, not, ◌&&◌, nat_le, drop, length, [], Option, Some, None}
use Rattle.pp_law.specs.Lists.{Bytes, is_some_with, is_this}
use Rattle.pp_law.specs.Replies.{next_request, said_by, said_of, said_of_body}
use Rattle.pp_law.specs.Stages.{is_passing, on_passed, passed_of, reply_of}
use Rattle.pp_law.specs.State.{Client, Course, Passed, Reply, Answering, Passes}
use Rattle.pp_law.specs.Table.{follows}
use Rattle.pp_pass.specs.Pipe.{without_first}
use Rattle.pp_seats_law.specs.Fates.{is_refused}
use Rattle.pp_states_law.proofs.Kept.{GoesThrough}
use Rattle.pp_text.specs.Bytes.{is_empty}

abbrev passed_on : ℕ → Client → Client
passed_on n c = on_passed (λ p. record p { pipe = without_first n p.pipe }) c

module _ {A : Type 0} (g : Client → A) (interim : (c : Client) (left : Bytes) → g (record c { interim_left = left }) ≡ g c) (stage : (c : Client) (r q : Reply) → reply_of c ≡ Some r → q.source ≡ r.source → g (record c { stage = Answering q }) ≡ g c)
    (passed : (n : ℕ) (c : Client) → g (passed_on n c) ≡ g c) where
  body_keeps : (n : ℕ) (c : Client) (r q : Reply) → reply_of c ≡ Some r → q.source ≡ r.source → (b : Bool) → g (elim b as (λ t. Client) [ true ↦ passed_on n (record c { stage = Answering q }) | false ↦ record c { stage = Answering (record q { at = q.at + n }) } ]) ≡ g c
  body_keeps n c r q is same true = passed n (record c { stage = Answering q }) ∙ stage c r q is same
  body_keeps n c r q is same false = stage c r (record q { at = q.at + n }) is same

  reply_keeps : (n : ℕ) (c : Client) (r : Reply) → reply_of c ≡ Some r → (b : Bool) → g (elim b as (λ t. Client) [ true ↦ record c { stage = Answering (record r { head_left = drop n r.head_left }) } | false ↦ said_of_body (n - length r.head_left) (record r { head_left = [] }) c ]) ≡ g c
  reply_keeps n c r is true = stage c r (record r { head_left = drop n r.head_left }) is refl
  reply_keeps n c r is false = body_keeps (n - length r.head_left) c r (record r { head_left = [] }) is refl (is_passing r.decision)

  said_keeps : (n : ℕ) (c : Client) → g (said_by n c) ≡ g c
  said_keeps n c = by (is_empty c.interim_left) (reply_of c) refl
    where
      by : (b : Bool) (o : Option Reply) → reply_of c ≡ o → g (elim b as (λ t. Client) [ false ↦ record c { interim_left = drop n c.interim_left } | true ↦ elim o as (λ t. Client) [ None ↦ c | Some r ↦ said_of n r c ] ]) ≡ g c
      by false o is = interim c (drop n c.interim_left)
      by true None is = refl
      by true (Some r) is = reply_keeps n c r is (nat_le n (length r.head_left))

-- by what is no part of what it brought
passed_keeps : {A : Type 0} (g : Client → A) → ((c : Client) (p : Passed) → g (record c { brought = Passes p }) ≡ g c) → (n : ℕ) (c : Client) → g (passed_on n c) ≡ g c
passed_keeps {A} g same n c = by (passed_of c)
  where
    by : (o : Option Passed) → g (elim o as (λ t. Client) [ None ↦ c | Some p ↦ record c { brought = Passes (record p { pipe = without_first n p.pipe }) } ]) ≡ g c
    by None = refl
    by (Some p) = same c (record p { pipe = without_first n p.pipe })

pub said_follows : (n id : ℕ) (c : Client) → follows id (said_by n c) ≡ follows id c
said_follows n id c =
    said_keeps (λ d. follows id d) (λ d left. refl)
    (λ d r q is same. ap (λ (o : Option ℕ). not d.is_closing && is_this id o) same ∙ ap (λ (o : Option Reply). not d.is_closing && is_some_with (λ t. is_this id t.source) o) (sym is))
    (passed_keeps (λ d. follows id d) (λ d p. refl)) n c

abbrev is_whole : Option Passed → Bool
is_whole o = is_some_with (λ p. p.pipe.is_finished) o

said_comes : (n : ℕ) (c : Client) → is_whole (passed_of (said_by n c)) ≡ is_whole (passed_of c)
said_comes n c = said_keeps (λ d. is_whole (passed_of d)) (λ d left. refl) (λ d r q is same. refl) (λ k d. whole k d) n c
  where
    whole : (k : ℕ) (d : Client) → is_whole (passed_of (passed_on k d)) ≡ is_whole (passed_of d)
    whole k d = by (passed_of d) refl
      where
        by : (o : Option Passed) → passed_of d ≡ o → is_whole (passed_of (elim o as (λ t. Client) [ None ↦ d | Some p ↦ record d { brought = Passes (record p { pipe = without_first k p.pipe }) } ])) ≡ is_whole (passed_of d)
        by None is = refl
        by (Some p) is = ap (λ (o : Option Passed). is_whole o) (sym is)

pub said_through : (n : ℕ) → GoesThrough (said_by n)
said_through n = record {
  number = λ c. said_keeps (λ d. d.number) (λ d left. refl) (λ d r q is same. refl) (passed_keeps (λ d. d.number) (λ d p. refl)) n c;
  goes = λ c on. record {
    going = said_keeps (λ d. d.is_closing) (λ d left. refl) (λ d r q is same. refl) (passed_keeps (λ d. d.is_closing) (λ d p. refl)) n c ∙ on.going;
    given = ap (λ (o : Course). is_refused o) (said_keeps (λ d. d.course) (λ d left. refl) (λ d r q is same. refl) (passed_keeps (λ d. d.course) (λ d p. refl)) n c) ∙ on.given;
  };
  comes = λ c on. said_comes n c ∙ on;
}

-- the next request reads nothing of what they change
pub next_said : (n : ℕ) (c : Client) → next_request (said_by n c) ≡ next_request c
next_said n c = said_keeps next_request (λ d left. refl) (λ d r q is same. refl) (passed_keeps next_request (λ d p. refl)) n c
