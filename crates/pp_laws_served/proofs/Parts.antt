-- What a next byte tells of its client.
use Rattle.std.proofs.Common.{◌≡◌, refl, ℕ, nat_lt, Bool, true, false, not, ◌==◌, Option, Some, None, ap, ◌∙◌}
use Rattle.pp_law.specs.Lists.{is_some_with, is_this}
use Rattle.pp_law.specs.Stages.{reply_of}
use Rattle.pp_law.specs.State.{State, Client, Instance, Reply, Stage, Undecided, Waiting, Passing, Answering}
use Rattle.pp_law.specs.Table.{Next, follows, instance, is_instance, next_from, next_in, next_of}
use Rattle.pp_laws.proofs.Lists.{in_find}
use Rattle.pp_laws.proofs.Tests.{number_same, same_number}
use Rattle.pp_obeys.proofs.Silent.{both_hold}

abbrev pub next_at : Instance → Reply → Next
next_at x r = record { source = x; at = r.at; to = r.to }

pub record Parts (u : State) (c : Client) (n : Next) : Type 0 where
  pub reply : Reply
  pub going : c.is_closing ≡ false
  pub is : reply_of c ≡ Some reply
  pub id : ℕ
  pub source : reply.source ≡ Some id
  pub row : Instance
  pub there : instance u id ≡ Some row
  pub within : nat_lt reply.at reply.to ≡ true
  pub next : next_at row reply ≡ n

pub parts_of : (u : State) (c : Client) (n : Next) → next_of u c ≡ Some n → Parts u c n
parts_of u c n is = by c.is_closing refl is
  where
    of_row : (r : Reply) → c.is_closing ≡ false → reply_of c ≡ Some r → (id : ℕ) → r.source ≡ Some id → (x : Instance) → instance u id ≡ Some x → (t : Bool) → nat_lt r.at r.to ≡ t → (elim t as (λ y. Option Next) [ true ↦ Some (next_at x r) | false ↦ None ]) ≡ Some n → Parts u c n
    of_row r going reply id source x found true within at = let eq : next_at x r ≡ n = cc at in record { reply = r; going = going; is = reply; id = id; source = source; row = x; there = found; within = within; next = eq }
    of_row r going reply id source x found false within at = absurd (cc at)

    found : (r : Reply) → c.is_closing ≡ false → reply_of c ≡ Some r → (id : ℕ) → r.source ≡ Some id → (o : Option Instance) → instance u id ≡ o → (elim o as (λ y. Option Next) [ None ↦ None | Some x ↦ next_from x r ]) ≡ Some n → Parts u c n
    found r going reply id source None none at = absurd (cc at)
    found r going reply id source (Some x) some at = of_row r going reply id source x some (nat_lt r.at r.to) refl at

    sourced : (r : Reply) → c.is_closing ≡ false → reply_of c ≡ Some r → (o : Option ℕ) → r.source ≡ o → (elim (elim o as (λ y. Option Instance) [ None ↦ None | Some id ↦ instance u id ]) as (λ y. Option Next) [ None ↦ None | Some x ↦ next_from x r ]) ≡ Some n → Parts u c n
    sourced r going reply None none at = absurd (cc at)
    sourced r going reply (Some id) some at = found r going reply id some (instance u id) refl at

    replied : c.is_closing ≡ false → (o : Option Reply) → reply_of c ≡ o → (elim o as (λ y. Option Next) [ None ↦ None | Some r ↦ next_in u r ]) ≡ Some n → Parts u c n
    replied going None none at = absurd (cc at)
    replied going (Some r) some at = sourced r going some r.source refl at

    by : (t : Bool) → c.is_closing ≡ t → (elim t as (λ y. Option Next) [ true ↦ None | false ↦ elim (reply_of c) as (λ y. Option Next) [ None ↦ None | Some r ↦ next_in u r ] ]) ≡ Some n → Parts u c n
    by true closing at = absurd (cc at)
    by false going at = replied going (reply_of c) refl at

-- and the other way
pub next_by : (u : State) (c : Client) (r : Reply) (id : ℕ) (x : Instance) → c.is_closing ≡ false → reply_of c ≡ Some r → r.source ≡ Some id → instance u id ≡ Some x → nat_lt r.at r.to ≡ true → next_of u c ≡ Some (next_at x r)
next_by u c r id x going reply source found within =
    ap (λ b. elim b as (λ y. Option Next) [ true ↦ None | false ↦ elim (reply_of c) as (λ y. Option Next) [ None ↦ None | Some q ↦ next_in u q ] ]) going
    ∙ ap (λ o. elim o as (λ y. Option Next) [ None ↦ None | Some q ↦ next_in u q ]) reply
    ∙ ap (λ o. elim (elim o as (λ y. Option Instance) [ None ↦ None | Some m ↦ instance u m ]) as (λ y. Option Next) [ None ↦ None | Some z ↦ next_from z r ]) source
    ∙ ap (λ o. elim o as (λ y. Option Next) [ None ↦ None | Some z ↦ next_from z r ]) found
    ∙ ap (λ b. elim b as (λ y. Option Next) [ true ↦ Some (next_at x r) | false ↦ None ]) within

pub row_id : (u : State) (id : ℕ) (x : Instance) → instance u id ≡ Some x → x.id ≡ id
row_id u id x found = same_number x.id id (in_find (is_instance id) x u.instances found).1

pub follows_it : (u : State) (c : Client) (n : Next) (p : Parts u c n) → follows p.row.id c ≡ true
follows_it u c n p =
    both_hold (not c.is_closing) (is_some_with (λ r. is_this p.row.id r.source) (reply_of c)) (ap not p.going)
    (ap (λ o. is_some_with (λ (r : Reply). is_this p.row.id r.source) o) p.is ∙ ap (λ o. is_this p.row.id o) p.source ∙ ap (λ m. p.id == m) (row_id u p.id p.row p.there) ∙ number_same p.id)

pub stage_of : (c : Client) (r : Reply) → reply_of c ≡ Some r → c.stage ≡ Answering r
stage_of c r is = by c.stage is
  where
    by : (stage : Stage) → (elim stage as (λ y. Option Reply) [ Undecided ↦ None | Waiting ↦ None | Passing ↦ None | Answering m ↦ Some m ]) ≡ Some r → stage ≡ Answering r
    by Undecided is = absurd (cc is)
    by Waiting is = absurd (cc is)
    by Passing is = absurd (cc is)
    by (Answering m) is = let eq : m ≡ r = cc is in ap (λ (z : Reply). Answering z) eq
