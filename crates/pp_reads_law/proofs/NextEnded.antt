-- Where a connection ended the law gives no number.
use Rattle.std.proofs.Common.{◌≡◌, refl, ap, ◌∙◌, ℕ, Bool, true, false, ◌&&◌, Option, Some, None}
use Rattle.pp_endings_law.proofs.Rests.{closed}
use Rattle.pp_law.specs.Connections.{close_conn, conn, end_exchange, front_of_line, on_client_of, on_conn}
use Rattle.pp_law.specs.Passing.{pour}
use Rattle.pp_law.specs.Responses.{close_this, ended, finish, finish_first, is_whole_at_end, may_go_on, rested, skip_body, skipping}
use Rattle.pp_law.specs.State.{State, Aim, Through, Own, Filling, Answer, Conn, Exchange}
use Rattle.pp_pass.specs.Pipe.{finished}

close_next : (counts : Bool) (k : Conn) (s : State) → (close_conn counts k s).next_instance ≡ s.next_instance
close_next counts k s = ap (λ (t : State). t.next_instance) (closed counts k s)

this_next : (n : ℕ) (s : State) → (close_this n s).next_instance ≡ s.next_instance
unfolding close_this
this_next n s = by (conn s n)
  where
    by : (o : Option Conn) → (elim o as (λ t. State) [ None ↦ s | Some k ↦ close_conn true k s ]).next_instance ≡ s.next_instance
    by None = refl
    by (Some k) = close_next true k s

skip_next : (e : Exchange) (s : State) → (skip_body e s).next_instance ≡ s.next_instance
unfolding skip_body on_client_of
skip_next e s = by e.aim
  where
    by : (a : Aim) → (elim a as (λ t. State) [ Through ↦ on_client_of e skipping s | Own ↦ s | Filling v from to ↦ s ]).next_instance ≡ s.next_instance
    by Through = refl
    by Own = refl
    by (Filling v from to) = refl

pour_next : (e : Exchange) (s : State) → (pour e finished s).next_instance ≡ s.next_instance
unfolding pour on_client_of
pour_next e s = refl

pub finish_next : (k : Conn) (e : Exchange) (a : Answer) (s : State) → (finish k e a s).next_instance ≡ s.next_instance
unfolding finish on_conn end_exchange
finish_next k e a s = by (may_go_on e a.head)
  where
    done : State
    done = on_conn k.number (rested a.head) (end_exchange e.number (skip_body e (pour e finished s)))

    done_next : done.next_instance ≡ s.next_instance
    done_next = skip_next e (pour e finished s) ∙ pour_next e s

    by : (b : Bool) → (elim b as (λ t. State) [ true ↦ done | false ↦ close_this k.number done ]).next_instance ≡ s.next_instance
    by true = done_next
    by false = this_next k.number done ∙ done_next

first_next : (k : Conn) (a : Answer) (s : State) → (finish_first k a s).next_instance ≡ s.next_instance
unfolding finish_first
first_next k a s = by (front_of_line s k)
  where
    by : (o : Option Exchange) → (elim o as (λ t. State) [ None ↦ s | Some e ↦ finish k e a s ]).next_instance ≡ s.next_instance
    by None = refl
    by (Some e) = finish_next k e a s

pub ended_next : (is_clean : Bool) (k : Conn) (s : State) → (ended is_clean k s).next_instance ≡ s.next_instance
unfolding ended
ended_next is_clean k s = by k.answer
  where
    at : (a : Answer) (b : Bool) → (elim b as (λ t. State) [ true ↦ close_this k.number (finish_first k a s) | false ↦ close_conn true k s ]).next_instance ≡ s.next_instance
    at a true = this_next k.number (finish_first k a s) ∙ first_next k a s
    at a false = close_next true k s

    by : (o : Option Answer) → (elim o as (λ t. State) [ None ↦ close_conn true k s | Some a ↦ elim (is_clean && is_whole_at_end a) as (λ t. State) [ true ↦ close_this k.number (finish_first k a s) | false ↦ close_conn true k s ] ]).next_instance ≡ s.next_instance
    by None = close_next true k s
    by (Some a) = at a (is_clean && is_whole_at_end a)
