-- The next byte of a client that follows what is there, by what the steps of a turn show.
use Rattle.std.proofs.Common.{◌≡◌, refl, sym, subst, ap, ◌∙◌, ℕ, Bool, true, false, nat_lt, [], Option, Some, None}
use Rattle.pp_turns_law.specs.Nexts.{IsNext}
use Rattle.pp_cache.specs.Memory.{Memory}
use Rattle.pp_cache_law.proofs.Alike.{instances_of}
use Rattle.pp_cache_law.specs.Reads.{IsFound}
use Rattle.pp_cache_law.specs.Tables.{ShowsTable}
use Rattle.pp_client.specs.Replies.{Reply as Said}
use Rattle.pp_turns_law.proofs.Follows.{going_seat, none_some}
use Rattle.pp_turns_law.specs.Turns.{IsFollowing}
use Rattle.pp_law.specs.Lists.{Bytes}
use Rattle.pp_law.specs.Stages.{reply_of}
use Rattle.pp_law.specs.State.{State, Client, Instance as Known, Reply}
use Rattle.pp_law.specs.Table.{Next, instance, next_from, next_in, next_of as next_of_law}
use Rattle.pp_objects.specs.Instances.{is_there}
use Rattle.pp_objects.specs.declared.id.ObjectId.{ObjectId}
use Rattle.pp_seats.specs.Follows.{answer_in, at_of, next_at, next_by, next_of}
use Rattle.pp_seats.specs.declared.seat.Answer.{Answer}
use Rattle.pp_seats.specs.declared.seat.Next.{Next as SeatNext}
use Rattle.pp_seats.specs.declared.seat.Seat.{Seat}
use Rattle.pp_seats_law.proofs.Nexts.{found_number}
use Rattle.pp_seats_law.proofs.Stages.{replies}
use Rattle.pp_seats_law.specs.Replies.{source_number}
use Rattle.pp_seats_law.specs.Seats.{ShowsSeat}
use Rattle.pp_seats_law.specs.Words.{HasSource, IsSameNext, ShowsReply}

-- ---- of the seat

at_source : (id : ObjectId) (at to : ℕ) (b : Bool) (n : SeatNext) → (elim b as (λ c. Option SeatNext) [ true ↦ Some (record { source = id; at = at; to = to }) | false ↦ None ]) ≡ Some n → id ≡ n.source
at_source id at to true n is = cc is
at_source id at to false n is = absurd (none_some is)

next_source : (id : ObjectId) (to : ℕ) (at : Option ℕ) (n : SeatNext) → next_at id to at ≡ Some n → id ≡ n.source
next_source id to None n is = absurd (none_some is)
next_source id to (Some at) n is = at_source id at to (nat_lt at to) n is

own_source : (a : Answer) (said : Said) (source : Option ObjectId) (n : SeatNext) → (elim source as (λ c. Option SeatNext) [ None ↦ None | Some id ↦ next_at id a.to (at_of a said) ]) ≡ Some n → source ≡ Some n.source
own_source a said None n is = absurd (none_some is)
own_source a said (Some id) n is = ap (λ (other : ObjectId). Some other) (next_source id a.to (at_of a said) n is)

record Follows (o : Option Answer) (n : SeatNext) : Type 0 where
  answer : Answer
  its : o ≡ Some answer
  own : answer.source ≡ Some n.source

follows_by : (o : Option Answer) (said : Said) (n : SeatNext) → next_by o said ≡ Some n → Follows o n
follows_by None said n is = absurd (none_some is)
follows_by (Some a) said n is = record { answer = a; its = refl; own = own_source a said a.source n is }

-- ---- of the client

from_source : (x : Known) (r : Reply) (b : Bool) (k : Next) → (elim b as (λ c. Option Next) [ true ↦ Some (record { source = x; at = r.at; to = r.to }) | false ↦ None ]) ≡ Some k → x ≡ k.source
from_source x r true k is = cc is
from_source x r false k is = absurd (none_some is)

record IsOf (s : State) (k : Next) : Type 0 where
  id : ℕ
  there : instance s id ≡ Some k.source

found_next : (s : State) (r : Reply) (id : ℕ) (o : Option Known) (k : Next) → instance s id ≡ o → (elim o as (λ c. Option Next) [ None ↦ None | Some x ↦ next_from x r ]) ≡ Some k → IsOf s k
found_next s r id None k here is = absurd (none_some is)
found_next s r id (Some x) k here is = record { id = id; there = here ∙ ap (λ (y : Known). Some y) (from_source x r (nat_lt r.at r.to) k is) }

source_next : (s : State) (r : Reply) (source : Option ℕ) (k : Next) → (elim (elim source as (λ c. Option Known) [ None ↦ None | Some id ↦ instance s id ]) as (λ c. Option Next) [ None ↦ None | Some x ↦ next_from x r ]) ≡ Some k → IsOf s k
source_next s r None k is = absurd (none_some is)
source_next s r (Some id) k is = found_next s r id (instance s id) k refl is

reply_next : (s : State) (o : Option Reply) (k : Next) → (elim o as (λ c. Option Next) [ None ↦ None | Some r ↦ next_in s r ]) ≡ Some k → IsOf s k
reply_next s None k is = absurd (none_some is)
reply_next s (Some r) k is = source_next s r r.source k is

pub going_law : (s : State) (c : Client) → c.is_closing ≡ false → next_of_law s c ≡ (elim (reply_of c) as (λ c. Option Next) [ None ↦ None | Some r ↦ next_in s r ])
going_law s c going = ap (λ (b : Bool). elim b as (λ x. Option Next) [ true ↦ None | false ↦ elim (reply_of c) as (λ x. Option Next) [ None ↦ None | Some r ↦ next_in s r ] ]) going

-- ---- both

source_there : (number : ℕ → ℕ) (m : Memory) (s : State) (said : Said) (a : Option Answer) (r : Option Reply) → ShowsTable number m s → ShowsReply number said a r
    → ((b : Answer) (id : ObjectId) → a ≡ Some b → b.source ≡ Some id → is_there id m.instances ≡ true)
    → (q : Reply) (id : ℕ) → r ≡ Some q → q.source ≡ Some id → (x : Known) × (instance s id ≡ Some x)
source_there number m s said None None table shows there q id is own = absurd (none_some is)
source_there number m s said (Some a) None table shows there q id is own = absurd shows
source_there number m s said None (Some r) table shows there q id is own = absurd shows
source_there number m s said (Some a) (Some r) table shows there q id is own = by a.source refl (shows.source ∙ (let same : r ≡ q = cc is in ap (λ (o : Reply). o.source) same) ∙ own)
  where
    by : (source : Option ObjectId) → a.source ≡ source → source_number number a.source ≡ Some id → (x : Known) × (instance s id ≡ Some x)
    by None its numbered = absurd (none_some (sym (ap (λ (o : Option ObjectId). source_number number o) its) ∙ numbered))
    by (Some own_id) its numbered =
        let one : IsFound number m s own_id = instances_of number m s table own_id (there a own_id refl its) in
        let same : Some (number own_id.life) ≡ Some id = sym (ap (λ (o : Option ObjectId). source_number number o) its) ∙ numbered in
        let number_is : number own_id.life ≡ id = cc same in
        (one.known, subst (λ (n : ℕ). instance s n ≡ Some one.known) number_is one.there)

pub has_source : (number : ℕ → ℕ) (m : Memory) (s : State) (name : Bytes) (seat : Seat) (c : Client) → ShowsTable number m s → ShowsSeat number name [] seat c → c.is_closing ≡ false → IsFollowing m seat → HasSource s c
has_source number m s name seat c table seen going there = source_there number m s seat.client.reply (answer_in seat.stage) (reply_of c) table (replies number name [] seat c (seen.going going)) there

pub is_next : (number : ℕ → ℕ) (m : Memory) (s : State) (name : Bytes) (seat : Seat) (c : Client) (n : SeatNext) (k : Next) → ShowsSeat number name [] seat c → c.is_closing ≡ false → IsFollowing m seat
    → next_of seat ≡ Some n → next_of_law s c ≡ Some k → IsSameNext number n k → IsNext number m s n k
is_next number m s name seat c n k seen going there its law same =
    let own : Follows (answer_in seat.stage) n = follows_by (answer_in seat.stage) seat.client.reply n (sym (going_seat seat (seen.closing ∙ going)) ∙ its) in
    let its_law : IsOf s k = reply_next s (reply_of c) k (sym (going_law s c going) ∙ law) in
    record {
      there = there own.answer n.source own.its own.own;
      known = subst (λ (i : ℕ). instance s i ≡ Some k.source) (sym (found_number s its_law.id k.source its_law.there) ∙ sym same.source) its_law.there;
      at = same.at;
      to = same.to;
    }
