-- Nothing that came is left to say to a seat where nothing is left to say to its client.
use Rattle.std.proofs.Common.{arith, ◌≡◌, ◌⊎◌, inl, inr, ◌<◌, refl, sym, subst, ap, ap₂, ◌∙◌, ℕ, ◌-◌, Bool, true, false, not, cond, ◌&&◌, ◌||◌, is_some, nat_lt, List, [], length, drop, Option, Some, None, option_map, option_and_then}
use Rattle.pp_turns_law.specs.Nexts.{IsNext}
use Rattle.pp_cache.specs.Memory.{extent_of as bytes_kept, is_in_memory}
use Rattle.pp_cache_law.proofs.Alike.{held_of}
use Rattle.pp_client.specs.Replies.{Reply as Said, at_hand, continue_text, interim_left, next_at as said_next, next_byte, stage_at_hand}
use Rattle.pp_client.specs.declared.interim.Interim.{Interim}
use Rattle.pp_client.specs.declared.reply.Stage.{Stage as SaidStage}
use Rattle.pp_flow_law.specs.Tables.{Leaving}
use Rattle.pp_holes.specs.Places.{Chunk}
use Rattle.pp_law.specs.Lists.{Bytes, is_some_with}
use Rattle.pp_law.specs.Offers.{is_at_body, offer}
use Rattle.pp_law.specs.Stages.{reply_of}
use Rattle.pp_law.specs.State.{State, Client, Reply, Stage, Undecided, Waiting, Passing, Answering}
use Rattle.pp_law.specs.Table.{Next, is_held, is_next_held, next_of as next_of_law}
use Rattle.pp_objects.specs.Instances.{Instance as Seen, is_there}
use Rattle.pp_objects.specs.declared.id.ObjectId.{ObjectId}
use Rattle.pp_peers.specs.declared.peers.Peer.{Peer}
use Rattle.pp_seats.specs.declared.seat.Answer.{Answer}
use Rattle.pp_seats.specs.declared.seat.Next.{Next as SeatNext}
use Rattle.pp_seats.specs.declared.seat.Seat.{Seat}
use Rattle.pp_seats.specs.declared.seat.Stage.{Stage as SeatStage}
use Rattle.pp_seats.specs.declared.seat.Stage.TheVariants.{Undecided as IsUndecided, Waiting as IsWaiting, Passing as IsPassing, Answering as IsAnswering}
use Rattle.pp_seats.specs.Courses.{has_begun}
use Rattle.pp_seats.specs.Follows.{answer_in, next_at, next_by, next_of}
use Rattle.pp_seats.specs.Seats.{is_at_body as seat_at_body}
use Rattle.pp_seats_law.proofs.Nexts.{nexts}
use Rattle.pp_seats_law.proofs.Stages.{begun, replies}
use Rattle.pp_seats_law.proofs.Uses.{interim_by}
use Rattle.pp_seats_law.specs.Replies.{ShowsInterim, ShowsStage}
use Rattle.pp_seats_law.specs.Seats.{ShowsOpen, ShowsSeat}
use Rattle.pp_seats_law.specs.Words.{ShowsNext, ShowsReply}
use Rattle.pp_due.specs.Due.{is_next_there}
use Rattle.pp_due.specs.OnDisk.{if_on_disk}
use Rattle.pp_state.specs.declared.state.State.{State as Turn}
use Rattle.pp_text.specs.Bytes.{is_empty}
use Rattle.pp_turns_law.proofs.Dry.{and_false, at_body, dry_none, dry_some, empty_length, not_in_memory, said_there}
use Rattle.pp_turns_law.proofs.Follows.{going_seat, has_source, is_next, none_some}
use Rattle.pp_turns_law.proofs.Offering.{offers}
use Rattle.pp_turns_law.specs.Dues.{DryIsTheLaws}
use Rattle.pp_turns_law.specs.Turns.{IsFollowing, ShowsTurn}

-- ---- what is said of an instance is said of one that is there

stage_there : (number : ℕ → ℕ) (said : Said) (stage : SeatStage) (other : Stage) (is : List Seen) → ShowsStage number said stage other → ((a : Answer) (id : ObjectId) → answer_in stage ≡ Some a → a.source ≡ Some id → is_there id is ≡ true) → is_next_there (next_byte said) is ≡ true
stage_there number said IsUndecided Undecided is shows there = ap (λ (stage : SaidStage). is_next_there (said_next stage) is) shows.0
stage_there number said IsWaiting Waiting is shows there = ap (λ (stage : SaidStage). is_next_there (said_next stage) is) shows
stage_there number said IsPassing Passing is shows there = ap (λ (stage : SaidStage). is_next_there (said_next stage) is) shows
stage_there number said (IsAnswering a) (Answering r) is shows there = said_there said.stage said.text a r is shows.says (λ id own. there a id refl own)
stage_there number said stage other is shows there = absurd shows

-- ---- what is next is not in memory where nothing is at hand

none_of_it : (left : Bytes) → is_empty left ≡ true → 0 < length left → ⊥
none_of_it left none some = absurd (let zero : length left ≡ 0 = empty_length left none in omega (arith, zero, some))

no_interim : (i : Interim) (left : Bytes) → ShowsInterim i left → is_empty left ≡ true → interim_left i ≡ 0
no_interim i left shows none = by (interim_by i left shows)
  where
    by : ((left ≡ []) × (interim_left i ≡ 0)) ⊎ ((length left ≡ interim_left i) × (0 < interim_left i)) → interim_left i ≡ 0
    by (inl both) = both.1
    by (inr both) = absurd (none_of_it left none (subst (λ (n : ℕ). 0 < n) (sym both.0) both.1))

first_true : (a b : Bool) → (a && b) ≡ true → a ≡ true
first_true true b is = refl
first_true false b is = is

second_true : (a b : Bool) → (a && b) ≡ true → b ≡ true
second_true true b is = is
second_true false b is = absurd (cc is)

reply_next : (number : ℕ → ℕ) (said : Said) (o : Option Answer) (q : Option Reply) (cs : List Chunk) (n : SeatNext) → ShowsReply number said o q → next_by o said ≡ Some n → is_some_with (λ r. r.has_begun && is_empty r.head_left) q ≡ true
    → is_empty (stage_at_hand said.stage said.text said.pipe cs) ≡ true → is_in_memory n.source.slot n.at cs ≡ false
reply_next number said None q cs n shows is at none = absurd (none_some is)
reply_next number said (Some a) None cs n shows is at none = absurd shows
reply_next number said (Some a) (Some r) cs n shows is at none =
    let midst : a.has_begun ≡ true = shows.begun ∙ first_true r.has_begun (is_empty r.head_left) at in
    not_in_memory said.stage said.text said.pipe a r cs n shows.says midst
    (subst
    (λ (t : Bool).
    (elim a.source as (λ c. Option SeatNext) [
      | None ↦ None
      | Some id ↦ next_at id a.to (elim t as (λ c. Option ℕ) [ true ↦ option_map (λ (next : ObjectId × ℕ). next.1) (next_byte said) | false ↦ Some a.from ])
    ]) ≡ Some n)
    midst is)
    none

hand_empty : (said : Said) (cs : List Chunk) → interim_left said.interim ≡ 0 → at_hand said cs ≡ stage_at_hand said.stage said.text said.pipe cs
hand_empty said cs none = ap (λ (n : ℕ). cond (nat_lt 0 n) (drop (25 - n) continue_text) (stage_at_hand said.stage said.text said.pipe cs)) none

missing : (number : ℕ → ℕ) (l : Leaving) (peers : List Peer) (p : Turn) (s : State) (name : Bytes) (seat : Seat) (c : Client) (n : SeatNext) → ShowsTurn number l peers p s → ShowsSeat number name [] seat c → c.is_closing ≡ false → IsFollowing p.cache seat → next_of seat ≡ Some n
    → is_empty (offer s c) ≡ true → is_at_body c ≡ true → (is_there n.source p.cache.instances && is_in_memory n.source.slot n.at p.cache.chunks) ≡ false
missing number l peers p s name seat c n shows seen going there is none at =
    let live : ShowsOpen number name [] seat c = seen.going going in
    let said = seat.client.reply in
    let silent : interim_left said.interim ≡ 0 = no_interim said.interim c.interim_left live.interim (first_true (is_empty c.interim_left) (is_some_with (λ r. r.has_begun && is_empty r.head_left) (reply_of c)) at) in
    let out : is_empty (stage_at_hand said.stage said.text said.pipe p.cache.chunks) ≡ true =
    ap (λ (bytes : Bytes). is_empty bytes) (sym (hand_empty said p.cache.chunks silent) ∙ offers number l peers p s name seat c shows seen going there) ∙ none in
    ap (λ (b : Bool). is_there n.source p.cache.instances && b)
    (reply_next number said (answer_in seat.stage) (reply_of c) p.cache.chunks n (replies number name [] seat c live) (sym (going_seat seat (seen.closing ∙ going)) ∙ is)
    (second_true (is_empty c.interim_left) (is_some_with (λ r. r.has_begun && is_empty r.head_left) (reply_of c)) at) out)
    ∙ and_false (is_there n.source p.cache.instances)

-- ---- both

dry_by : (number : ℕ → ℕ) (l : Leaving) (peers : List Peer) (p : Turn) (s : State) (e b : Bool) (x : Option SeatNext) (y : Option Next) → ShowsTurn number l peers p s → ShowsNext number x y → ((n : SeatNext) (k : Next) → x ≡ Some n → y ≡ Some k → IsNext number p.cache s n k)
    → ((n : SeatNext) → x ≡ Some n → e ≡ true → b ≡ true → (is_there n.source p.cache.instances && is_in_memory n.source.slot n.at p.cache.chunks) ≡ false)
    → (e && not (is_some (elim b as (λ c. Option SeatNext) [ true ↦ option_and_then (if_on_disk p.cache) x | false ↦ None ]))) ≡ not (not e || (b && is_some_with (is_next_held s) y))
dry_by number l peers p s e b None None shows same one out = dry_none e b
dry_by number l peers p s e b (Some n) (Some k) shows same one out =
    let next : IsNext number p.cache s n k = one n k refl refl in
    dry_some e b (nat_lt n.at (bytes_kept n.source p.cache)) (is_there n.source p.cache.instances && is_in_memory n.source.slot n.at p.cache.chunks) n (out n refl)
    ∙ ap (λ (h : Bool). not (not e || (b && h))) (held_of number p.cache s shows.steps.shows.table.table n.source k.source next.there next.known n.at ∙ ap (λ (at : ℕ). is_held s k.source at) next.at)
dry_by number l peers p s e b None (Some k) shows same one out = absurd same
dry_by number l peers p s e b (Some n) None shows same one out = absurd same

pub dry : DryIsTheLaws
dry number l peers p s name seat c shows seen going there =
    let live : ShowsOpen number name [] seat c = seen.going going in
    let same : ShowsNext number (next_of seat) (next_of_law s c) = nexts number s name [] seat c seen (λ on. has_source number l peers p s name seat c shows seen going there) in
    let at : seat_at_body seat ≡ is_at_body c = at_body c.interim_left (reply_of c) (has_begun seat) seat.before_body (begun number name [] seat c live) live.before_body in
    ap₂ (λ (b : Bool) (bytes : Bytes). (not b || is_empty bytes) && not (is_some (elim (seat_at_body seat) as (λ c. Option SeatNext) [ true ↦ option_and_then (if_on_disk p.cache) (next_of seat) | false ↦ None ])))
    (stage_there number seat.client.reply seat.stage c.stage p.cache.instances live.stage there) (offers number l peers p s name seat c shows seen going there)
    ∙ ap (λ (b : Bool). is_empty (offer s c) && not (is_some (elim b as (λ c. Option SeatNext) [ true ↦ option_and_then (if_on_disk p.cache) (next_of seat) | false ↦ None ]))) at
    ∙ dry_by number l peers p s (is_empty (offer s c)) (is_at_body c) (next_of seat) (next_of_law s c) shows same
    (λ n k its law. is_next number l peers p s name seat c n k shows seen going there its law (subst (λ (y : Option Next). ShowsNext number (Some n) y) law (subst (λ (x : Option SeatNext). ShowsNext number x (next_of_law s c)) its same)))
    (λ n its. missing number l peers p s name seat c n shows seen going there its)
