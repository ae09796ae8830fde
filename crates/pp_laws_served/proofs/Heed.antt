-- Clients of whom nothing more was heard: each goes on at its request, and hung up where it had.
use Rattle.std.proofs.Common.{◌≡◌, refl, ◌≤◌, Bool, true, false, List, map, length, sym, subst, ap, ◌∙◌, le_refl, le_trans}
use Rattle.pp_law.specs.Lists.{change}
use Rattle.pp_law.specs.State.{State, Client}
use Rattle.pp_laws.specs.Runs.{IsIn}
use Rattle.pp_laws.proofs.Lists.{From, changed_at, in_map, map_kept}
use Rattle.pp_laws.proofs.Sound.{client_number}

-- ---- a client

-- it is at the same request, and hung up where it had; it is closing where it was; no more of what it sent is unread, and what is left
-- of a body that was heard whole is heard
pub record Still (d c : Client) : Type 0 where
  pub number : d.number ≡ c.number
  pub front : d.front ≡ c.front
  pub hung : d.has_hung_up ≡ c.has_hung_up
  pub closing : c.is_closing ≡ true → d.is_closing ≡ true
  pub heard : length d.heard ≤ length c.heard
  pub left : c.body_left ≤ length c.heard → d.body_left ≤ length d.heard

pub as_it_was : (d c : Client) → d.number ≡ c.number → d.front ≡ c.front → d.has_hung_up ≡ c.has_hung_up → (c.is_closing ≡ true → d.is_closing ≡ true) → d.heard ≡ c.heard → d.body_left ≡ c.body_left → Still d c
as_it_was d c number front hung closing heard left = record {
  number = number;
  front = front;
  hung = hung;
  closing = closing;
  heard = subst (λ n. n ≤ length c.heard) (sym (ap length heard)) (le_refl (length c.heard));
  left = λ le. subst (λ n. d.body_left ≤ n) (sym (ap length heard)) (subst (λ n. n ≤ length c.heard) (sym left) le);
}

pub still_same : (c : Client) → Still c c
still_same c = as_it_was c c refl refl refl (λ is. is) refl refl

pub still_on : (e d c : Client) → Still e d → Still d c → Still e c
still_on e d c one two = record {
  number = one.number ∙ two.number;
  front = one.front ∙ two.front;
  hung = one.hung ∙ two.hung;
  closing = λ is. one.closing (two.closing is);
  heard = le_trans one.heard two.heard;
  left = λ le. one.left (two.left le);
}

pub record FromClient (clients : List Client) (d : Client) : Type 0 where
  pub was : Client
  pub there : IsIn was clients
  pub is : Still d was

-- ---- a state

pub record Facts (o : State) (clients : List Client) : Type 0 where
  pub numbers : map client_number clients ≡ map client_number o.clients
  pub clients_from : (d : Client) → IsIn d clients → FromClient o.clients d

abbrev pub FactsOf : State → State → Type 0
FactsOf o s = Facts o s.clients

-- from the first state on nobody was heard, and no request was over
pub data Heeds (o s : State) : Type 0 where
  heeds : FactsOf o s → Heeds o s

pub facts_of : {o s : State} → Heeds o s → FactsOf o s
facts_of (heeds facts) = facts

pub heeds_same : (s : State) → Heeds s s
heeds_same s = heeds (record { numbers = refl; clients_from = λ d i. record { was = d; there = i; is = still_same d } })

-- ---- what becomes of clients

from_on : (o : List Client) (d c : Client) → Still d c → FromClient o c → FromClient o d
from_on o d c one two = record { was = two.was; there = two.there; is = still_on d c two.was one two.is }

pub clients_mapped : (o s : State) (f : Client → Client) → ((c : Client) → Still (f c) c) → FactsOf o s → FactsOf o (record s { clients = map f s.clients })
clients_mapped o s f kept h = record { numbers = map_kept client_number f (λ c. (kept c).number) s.clients ∙ h.numbers; clients_from = λ d i. by d (in_map f d s.clients i) }
  where
    by : (d : Client) → From f s.clients d → FromClient o.clients d
    by d r = from_on o.clients d r.was (subst (λ (x : Client). Still x r.was) (sym r.is) (kept r.was)) (h.clients_from r.was r.there)

still_at : (p : Client → Bool) (f : Client → Client) → ((c : Client) → p c ≡ true → Still (f c) c) → (c : Client) (t : Bool) → p c ≡ t → Still (elim t as (λ x. Client) [ true ↦ f c | false ↦ c ]) c
still_at p f kept c true is = kept c is
still_at p f kept c false is = still_same c

pub clients_changed : (o s : State) (p : Client → Bool) (f : Client → Client) → ((c : Client) → p c ≡ true → Still (f c) c) → FactsOf o s → FactsOf o (record s { clients = change p f s.clients })
clients_changed o s p f kept h = clients_mapped o s (changed_at p f) (λ c. still_at p f kept c (p c) refl) h
