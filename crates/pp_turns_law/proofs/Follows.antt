-- The next byte of a seat that follows an instance is that of its client, of an instance that is there.
use Rattle.std.proofs.Common.{◌≡◌, refl, sym, subst, ap, ap₂, ◌∙◌, ℕ, Bool, true, false, not, ◌&&◌, nat_lt, [], Option, Some, None, List}
use Rattle.pp_turns_law.proofs.Comes.{provided_of}
use Rattle.pp_turns_law.specs.Nexts.{IsNext}
use Rattle.pp_cache_law.proofs.Alike.{instances_of, retired_of}
use Rattle.pp_cache_law.specs.Reads.{IsFound}
use Rattle.pp_cache_law.specs.Tables.{ShowsTable}
use Rattle.pp_client.specs.Replies.{Reply as Said}
use Rattle.pp_flow_law.specs.Tables.{Leaving}
use Rattle.pp_law.specs.Lists.{Bytes, is_some_with}
use Rattle.pp_law.specs.Stages.{reply_of}
use Rattle.pp_law.specs.State.{State, Client, Instance as Known, Reply}
use Rattle.pp_law.specs.Table.{Next, instance, is_provided as provided_by_law, next_from, next_in, next_of as next_of_law}
use Rattle.pp_objects.specs.Instances.{is_there}
use Rattle.pp_objects.specs.declared.id.ObjectId.{ObjectId}
use Rattle.pp_peers.specs.declared.peers.Peer.{Peer}
use Rattle.pp_seats.specs.declared.seat.Answer.{Answer}
use Rattle.pp_seats.specs.declared.seat.Next.{Next as SeatNext}
use Rattle.pp_seats.specs.declared.seat.Seat.{Seat}
use Rattle.pp_seats.specs.Follows.{answer_in, at_of, next_at, next_by, next_of}
use Rattle.pp_seats_law.proofs.Nexts.{found_number, nexts}
use Rattle.pp_seats_law.specs.Replies.{source_number}
use Rattle.pp_seats_law.specs.Seats.{ShowsSeat}
use Rattle.pp_seats_law.specs.Words.{HasSource, IsSameNext, ShowsNext, ShowsReply}
use Rattle.pp_seats_law.proofs.Stages.{replies}
use Rattle.pp_due.specs.Due.{is_left_behind}
use Rattle.pp_state.specs.Ends.{parts}
use Rattle.pp_state.specs.declared.state.State.{State as Turn}
use Rattle.pp_turns_law.specs.Dues.{SupersededIsTheLaws}
use Rattle.pp_turns_law.specs.Turns.{IsFollowing, ShowsTurn}

pub none_some : {A : Type 0} {x : A} → None ≡ Some x → ⊥
none_some e = absurd (cc e)

-- ---- of the seat

at_source : (id : ObjectId) (at to : ℕ) (b : Bool) (n : SeatNext) → (elim b as (λ c. Option SeatNext) [ true ↦ Some (record { source = id; at = at; to = to }) | false ↦ None ]) ≡ Some n → id ≡ n.source
at_source id at to true n is = cc is
at_source id at to false n is = absurd (none_some is)

next_source : (id : ObjectId) (to : ℕ) (at : Option ℕ) (n : SeatNext) → next_at id to at ≡ Some n → id ≡ n.source
next_source id to None n is = absurd (none_some is)
next_source id to (Some at) n is = at_source id at to (nat_lt at to) n is

own_source : (a : Answer) (said : Said) (source : Option ObjectId) (n : SeatNext) → (elim source as (λ c. Option SeatNext) [ None ↦ None | Some id ↦ next_at id a.to (at_of a said) ]) ≡ Some n → source ≡ Some n.source
own_source a said None n is = absurd (none_some is)
own_source a said (Some id) n is = ap (λ (other : ObjectId). Some other) (next_source id a.to (at_of a said) n is)

record Follows (o : Option Answer) (n : SeatNext) : Type 0 where
  pub answer : Answer
  pub its : o ≡ Some answer
  pub own : answer.source ≡ Some n.source

follows_by : (o : Option Answer) (said : Said) (n : SeatNext) → next_by o said ≡ Some n → Follows o n
follows_by None said n is = absurd (none_some is)
follows_by (Some a) said n is = record { answer = a; its = refl; own = own_source a said a.source n is }

-- ---- of the client

from_source : (x : Known) (r : Reply) (b : Bool) (k : Next) → (elim b as (λ c. Option Next) [ true ↦ Some (record { source = x; at = r.at; to = r.to }) | false ↦ None ]) ≡ Some k → x ≡ k.source
from_source x r true k is = cc is
from_source x r false k is = absurd (none_some is)

record IsOf (s : State) (k : Next) : Type 0 where
  pub id : ℕ
  pub there : instance s id ≡ Some k.source

found_next : (s : State) (r : Reply) (id : ℕ) (o : Option Known) (k : Next) → instance s id ≡ o → (elim o as (λ c. Option Next) [ None ↦ None | Some x ↦ next_from x r ]) ≡ Some k → IsOf s k
found_next s r id None k here is = absurd (none_some is)
found_next s r id (Some x) k here is = record { id = id; there = here ∙ ap (λ (y : Known). Some y) (from_source x r (nat_lt r.at r.to) k is) }

source_next : (s : State) (r : Reply) (source : Option ℕ) (k : Next) → (elim (elim source as (λ c. Option Known) [ None ↦ None | Some id ↦ instance s id ]) as (λ c. Option Next) [ None ↦ None | Some x ↦ next_from x r ]) ≡ Some k → IsOf s k
source_next s r None k is = absurd (none_some is)
source_next s r (Some id) k is = found_next s r id (instance s id) k refl is

reply_next : (s : State) (o : Option Reply) (k : Next) → (elim o as (λ c. Option Next) [ None ↦ None | Some r ↦ next_in s r ]) ≡ Some k → IsOf s k
reply_next s None k is = absurd (none_some is)
reply_next s (Some r) k is = source_next s r r.source k is

going_law : (s : State) (c : Client) → c.is_closing ≡ false → next_of_law s c ≡ (elim (reply_of c) as (λ c. Option Next) [ None ↦ None | Some r ↦ next_in s r ])
going_law s c going = ap (λ (b : Bool). elim b as (λ x. Option Next) [ true ↦ None | false ↦ elim (reply_of c) as (λ x. Option Next) [ None ↦ None | Some r ↦ next_in s r ] ]) going

pub going_seat : (seat : Seat) → seat.is_closing ≡ false → next_of seat ≡ next_by (answer_in seat.stage) seat.client.reply
going_seat seat going = ap (λ (b : Bool). elim b as (λ x. Option SeatNext) [ true ↦ None | false ↦ next_by (answer_in seat.stage) seat.client.reply ]) going

-- ---- both

-- an instance that the client of the law follows is there, where that of the seat is
source_there : (number : ℕ → ℕ) (p : Turn) (s : State) (said : Said) (a : Option Answer) (r : Option Reply) → ShowsTable number p.cache s → ShowsReply number said a r
    → ((b : Answer) (id : ObjectId) → a ≡ Some b → b.source ≡ Some id → is_there id p.cache.instances ≡ true)
    → (q : Reply) (id : ℕ) → r ≡ Some q → q.source ≡ Some id → (x : Known) × (instance s id ≡ Some x)
source_there number p s said None None table shows there q id is own = absurd (none_some is)
source_there number p s said (Some a) None table shows there q id is own = absurd shows
source_there number p s said None (Some r) table shows there q id is own = absurd shows
source_there number p s said (Some a) (Some r) table shows there q id is own = by a.source refl (shows.source ∙ (let same : r ≡ q = cc is in ap (λ (o : Reply). o.source) same) ∙ own)
  where
    by : (source : Option ObjectId) → a.source ≡ source → source_number number a.source ≡ Some id → (x : Known) × (instance s id ≡ Some x)
    by None its numbered = absurd (none_some (sym (ap (λ (o : Option ObjectId). source_number number o) its) ∙ numbered))
    by (Some own_id) its numbered =
        let one : IsFound number p.cache s own_id = instances_of number p.cache s table own_id (there a own_id refl its) in
        let same : Some (number own_id.life) ≡ Some id = sym (ap (λ (o : Option ObjectId). source_number number o) its) ∙ numbered in
        let number_is : number own_id.life ≡ id = cc same in
        (one.known, subst (λ (n : ℕ). instance s n ≡ Some one.known) number_is one.there)

pub has_source : (number : ℕ → ℕ) (l : Leaving) (peers : List Peer) (p : Turn) (s : State) (name : Bytes) (seat : Seat) (c : Client) → ShowsTurn number l peers p s → ShowsSeat number name [] seat c → c.is_closing ≡ false → IsFollowing p.cache seat → HasSource s c
has_source number l peers p s name seat c shows seen going there =
    source_there number p s seat.client.reply (answer_in seat.stage) (reply_of c) shows.steps.shows.table.table (replies number name [] seat c (seen.going going)) there

pub is_next : (number : ℕ → ℕ) (l : Leaving) (peers : List Peer) (p : Turn) (s : State) (name : Bytes) (seat : Seat) (c : Client) (n : SeatNext) (k : Next) → ShowsTurn number l peers p s → ShowsSeat number name [] seat c → c.is_closing ≡ false → IsFollowing p.cache seat
    → next_of seat ≡ Some n → next_of_law s c ≡ Some k → IsSameNext number n k → IsNext number p.cache s n k
is_next number l peers p s name seat c n k shows seen going there its law same =
    let own : Follows (answer_in seat.stage) n = follows_by (answer_in seat.stage) seat.client.reply n (sym (going_seat seat (seen.closing ∙ going)) ∙ its) in
    let its_law : IsOf s k = reply_next s (reply_of c) k (sym (going_law s c going) ∙ law) in
    record {
      there = there own.answer n.source own.its own.own;
      known = subst (λ (i : ℕ). instance s i ≡ Some k.source) (sym (found_number s its_law.id k.source its_law.there) ∙ sym same.source) its_law.there;
      at = same.at;
      to = same.to;
    }

-- ---- another version stands, and of this one nothing more comes

behind_by : (number : ℕ → ℕ) (l : Leaving) (peers : List Peer) (p : Turn) (s : State) (x : Option SeatNext) (y : Option Next) → ShowsTurn number l peers p s → ShowsNext number x y → ((n : SeatNext) (k : Next) → x ≡ Some n → y ≡ Some k → IsNext number p.cache s n k)
    → (elim x as (λ c. Bool) [ None ↦ false | Some n ↦ is_left_behind p n ]) ≡ is_some_with (λ n. n.source.is_retired && not (provided_by_law s n)) y
behind_by number l peers p s None None shows same one = refl
behind_by number l peers p s (Some n) (Some k) shows same one =
    let next : IsNext number p.cache s n k = one n k refl refl in
    ap₂ (λ (a b : Bool). a && not b) (retired_of number p.cache s shows.steps.shows.table.table n.source k.source next.there next.known) (provided_of number p.name.items l peers (parts p) s shows.steps n k next)
behind_by number l peers p s None (Some k) shows same one = absurd same
behind_by number l peers p s (Some n) None shows same one = absurd same

pub superseded : SupersededIsTheLaws
superseded number l peers p s name seat c shows seen going there =
    behind_by number l peers p s (next_of seat) (next_of_law s c) shows (nexts number s name [] seat c seen (λ on. has_source number l peers p s name seat c shows seen going there))
    (λ n k its law. is_next number l peers p s name seat c n k shows seen going there its law
    (subst (λ (y : Option Next). ShowsNext number (Some n) y) law (subst (λ (x : Option SeatNext). ShowsNext number x (next_of_law s c)) its (nexts number s name [] seat c seen (λ on. has_source number l peers p s name seat c shows seen going there)))))
