-- What is at hand for a seat is what the law offers its client.
use Rattle.std.proofs.Common.{arith, ◌≡◌, refl, sym, subst, ap, ap₂, ◌∙◌, ℕ, zero, suc, ◌+◌, ◌-◌, ◌*◌, ◌/◌, ◌%◌, Bool, true, false, cond, ◌==◌, nat_lt, List, [], ◌++◌, length, take, drop, length-drop, Option, Some, None}
use Rattle.std.proofs.lemmas.Bool.Decides.{nat_tests}
use Rattle.pp_cache_law.proofs.Alike.{bytes_of, instances_of}
use Rattle.pp_cache_law.specs.Reads.{IsFound}
use Rattle.pp_cache_law.specs.Tables.{ShowsTable}
use Rattle.pp_client.specs.Replies.{Reply as Said, body_at_hand, continue_text, interim_left, run_at_hand, stage_at_hand}
use Rattle.pp_client.specs.declared.interim.Interim.{Interim}
use Rattle.pp_client.specs.declared.interim.Interim.TheVariants.{Unasked, Left}
use Rattle.pp_client.specs.declared.reply.Begin.{Begin}
use Rattle.pp_client.specs.declared.reply.Begin.TheVariants.{Page, Instance, Passed as IsPassed}
use Rattle.pp_client.specs.declared.reply.Stage.{Stage as SaidStage}
use Rattle.pp_client.specs.declared.reply.Stage.TheVariants.{Due, Begun}
use Rattle.pp_holes.specs.Places.{Chunk, bytes_at}
use Rattle.pp_law.specs.Chunks.{chunk_bytes}
use Rattle.pp_law.specs.Lists.{Bytes}
use Rattle.pp_law.specs.Offers.{body_part, passed_part, piece, reply_part, run_at}
use Rattle.pp_law.specs.Requests.{Front}
use Rattle.pp_law.specs.Stages.{passed_of, reply_of}
use Rattle.pp_law.specs.State.{State, Chunk as Held, Client, Instance as Known, Passed, Reply, Stage, Undecided, Waiting, Passing, Answering}
use Rattle.pp_law.specs.Table.{Next, instance, next_from, next_in, next_of}
use Rattle.pp_objects.specs.Instances.{is_there}
use Rattle.pp_objects.specs.declared.id.ObjectId.{ObjectId}
use Rattle.pp_pass.specs.Pipe.{Pipe}
use Rattle.pp_seats.specs.declared.seat.Answer.{Answer}
use Rattle.pp_seats.specs.declared.seat.Brought.{Brought as SeatBrought}
use Rattle.pp_seats.specs.declared.seat.Brought.TheVariants.{Awaited as NoneYet, Useless as NoneOfUse, Joins as JoinsRow, Passes as PassesOn, TooWide as IsTooWide, Refused}
use Rattle.pp_seats.specs.declared.seat.Passed.{Passed as SeatPassed}
use Rattle.pp_seats.specs.declared.seat.Seat.{Seat}
use Rattle.pp_seats.specs.declared.seat.Stage.{Stage as SeatStage}
use Rattle.pp_seats.specs.declared.seat.Stage.TheVariants.{Undecided as IsUndecided, Waiting as IsWaiting, Passing as IsPassing, Answering as IsAnswering}
use Rattle.pp_seats.specs.Follows.{answer_in}
use Rattle.pp_seats.specs.Seats.{passed_in}
use Rattle.pp_seats_law.proofs.Nexts.{found_number}
use Rattle.pp_seats_law.proofs.Stages.{passed}
use Rattle.pp_seats_law.proofs.Uses.{not_empty}
use Rattle.pp_seats_law.specs.Replies.{IsPipedFor, ShowsBegin, ShowsInterim, ShowsSaid, ShowsStage, source_number}
use Rattle.pp_seats_law.specs.Seats.{ShowsOpen}
use Rattle.pp_seats_law.specs.Words.{ShowsMaybePassed}
use Rattle.pp_state.specs.declared.state.State.{State as Turn}
use Rattle.pp_text.specs.Bytes.{is_empty}
use Rattle.pp_turns_law.specs.Dues.{OffersAreTheLaws}

-- ---- bytes of an instance

run_same : (fuel slot id at : ℕ) (cs : List Chunk) (ds : List Held) → ((index : ℕ) → bytes_at (slot, index) cs ≡ chunk_bytes id index ds) → run_at_hand fuel slot at cs ≡ run_at fuel id at ds
unfolding run_at_hand
run_same zero slot id at cs ds same = refl
run_same (suc n) slot id at cs ds same =
    ap₂ (λ (bytes rest : Bytes). drop (at % 4096) bytes ++ (elim (length bytes == 4096) as (λ c. Bytes) [ true ↦ rest | false ↦ [] ])) (same (at / 4096)) (run_same n slot id ((at / 4096 + 1) * 4096) cs ds same)

-- ---- the interim answer comes first

some_left : (n : ℕ) → nat_lt 0 (suc n) ≡ true
some_left n = grind (arith, nat_tests)

interim_first : (i : Interim) (left rest part : Bytes) → ShowsInterim i left → rest ≡ part
    → cond (nat_lt 0 (interim_left i)) (drop (25 - interim_left i) continue_text) rest ≡ (elim (is_empty left) as (λ c. Bytes) [ false ↦ left | true ↦ part ])
interim_first Unasked left rest part none same = rw none same
interim_first (Left zero) left rest part shows same = rw (shows.1) same
interim_first (Left (suc n)) left rest part shows same =
    let len : length left ≡ 25 - (25 - suc n) = ap (λ (bytes : Bytes). length bytes) shows.1 ∙ length-drop (25 - suc n) continue_text in
    ap (λ (b : Bool). cond b (drop (25 - suc n) continue_text) rest) (some_left n) ∙ sym shows.1
    ∙ sym (ap (λ (b : Bool). elim b as (λ c. Bytes) [ false ↦ left | true ↦ part ]) (not_empty left (omega (arith, len, shows.0))))

-- ---- the body

next_going : (s : State) (c : Client) (r : Reply) → c.is_closing ≡ false → reply_of c ≡ Some r → next_of s c ≡ next_in s r
next_going s c r going is =
    ap (λ (b : Bool). elim b as (λ x. Option Next) [ true ↦ None | false ↦ elim (reply_of c) as (λ x. Option Next) [ None ↦ None | Some q ↦ next_in s q ] ]) going
    ∙ ap (λ (o : Option Reply). elim o as (λ x. Option Next) [ None ↦ None | Some q ↦ next_in s q ]) is

abbrev part_by : State → Bool → Bytes → Option Next → Bytes
part_by s passing passes next = elim passing [ true ↦ passes | false ↦ elim next [ None ↦ [] | Some n ↦ piece s n ] ]

none_less : (to at : ℕ) → nat_lt at to ≡ false → to - at ≡ 0
none_less to at over = grind (arith, nat_tests, over)

span_same : (s : State) (x : Known) (r : Reply) (slot : ℕ) (cs : List Chunk) (b : Bool) → nat_lt r.at r.to ≡ b → run_at_hand 16 slot r.at cs ≡ run_at 16 x.id r.at s.chunks
    → take (r.to - r.at) (run_at_hand 16 slot r.at cs) ≡ part_by s false [] (elim b as (λ c. Option Next) [ true ↦ Some (record { source = x; at = r.at; to = r.to }) | false ↦ None ])
span_same s x r slot cs true less same = ap (λ (bytes : Bytes). take (r.to - r.at) bytes) same
span_same s x r slot cs false less same = ap (λ (n : ℕ). take n (run_at_hand 16 slot r.at cs)) (none_less r.to r.at less)

span_from : (s : State) (x : Known) (r : Reply) (slot : ℕ) (cs : List Chunk) → run_at_hand 16 slot r.at cs ≡ run_at 16 x.id r.at s.chunks
    → take (r.to - r.at) (run_at_hand 16 slot r.at cs) ≡ part_by s false [] (next_from x r)
span_from s x r slot cs same = span_same s x r slot cs (nat_lt r.at r.to) refl same

source_next : (s : State) (r : Reply) (source : Option ℕ) → r.source ≡ source → next_in s r ≡ (elim (elim source as (λ c. Option Known) [ None ↦ None | Some id ↦ instance s id ]) as (λ c. Option Next) [ None ↦ None | Some x ↦ next_from x r ])
source_next s r source is = ap (λ (o : Option ℕ). elim (elim o as (λ c. Option Known) [ None ↦ None | Some id ↦ instance s id ]) as (λ c. Option Next) [ None ↦ None | Some x ↦ next_from x r ]) is

begin_same : (number : ℕ → ℕ) (s : State) (c : Client) (cs : List Chunk) (b : Begin) (text : Bytes) (pipe : Pipe) (a : Answer) (r : Reply) → next_of s c ≡ next_in s r → source_number number a.source ≡ r.source → ShowsBegin b text a r
    → (b ≡ IsPassed → pipe.bytes ≡ passed_part c) → ((id : ObjectId) → a.source ≡ Some id → (x : Known) × (instance s (number id.life) ≡ Some x))
    → ((id : ObjectId) → a.source ≡ Some id → (index : ℕ) → bytes_at (id.slot, index) cs ≡ chunk_bytes (number id.life) index s.chunks) → body_at_hand b pipe cs ≡ body_part s c r
begin_same number s c cs Page text pipe a r next source shows passes there bytes =
    let none : r.source ≡ None = sym source ∙ ap (λ (o : Option ObjectId). source_number number o) shows.1 in
    sym (ap₂ (λ (b : Bool) (n : Option Next). part_by s b (passed_part c) n) shows.2 (next ∙ source_next s r None none))
begin_same number s c cs (Instance id at to) text pipe a r next source shows passes there bytes =
    let own : a.source ≡ Some id = shows.1 in
    let one : r.source ≡ Some (number id.life) = sym source ∙ ap (λ (o : Option ObjectId). source_number number o) own in
    let x : (x : Known) × (instance s (number id.life) ≡ Some x) = there id own in
    let run : run_at_hand 16 id.slot r.at cs ≡ run_at 16 x.0.id r.at s.chunks = run_same 16 id.slot x.0.id r.at cs s.chunks (λ index. bytes id own index ∙ ap (λ (n : ℕ). chunk_bytes n index s.chunks) (sym (found_number s (number id.life) x.0 x.1))) in
    ap₂ (λ (n m : ℕ). take (m - n) (run_at_hand 16 id.slot n cs)) (sym shows.0.next) (sym shows.0.end)
    ∙ span_from s x.0 r id.slot cs run
    ∙ sym (ap₂ (λ (b : Bool) (n : Option Next). part_by s b (passed_part c) n) shows.3 (next ∙ source_next s r (Some (number id.life)) one ∙ ap (λ (o : Option Known). elim o as (λ c. Option Next) [ None ↦ None | Some y ↦ next_from y r ]) x.1))
begin_same number s c cs IsPassed text pipe a r next source shows passes there bytes = passes refl ∙ sym (ap (λ (b : Bool). part_by s b (passed_part c) (next_of s c)) shows.2)

-- ---- the reply

abbrev reply_by : State → Client → Option Reply → Bytes
reply_by s c o = elim o [ None ↦ [] | Some r ↦ elim r.has_begun [ false ↦ [] | true ↦ r.head_left ++ body_part s c r ] ]

abbrev begun_by : Bool → Bytes → Bytes
begun_by begun bytes = elim begun [ false ↦ [] | true ↦ bytes ]

begun_of : (b : Begin) (text : Bytes) (a : Answer) (r : Reply) → ShowsBegin b text a r → (a.has_begun ≡ true) × (r.head_left ≡ text)
begun_of Page text a r shows = (shows.0.begun, shows.0.left)
begun_of (Instance id at to) text a r shows = (shows.0.begun, shows.0.left)
begun_of IsPassed text a r shows = (shows.0.begun, shows.0.left)

stage_same : (number : ℕ → ℕ) (s : State) (c : Client) (cs : List Chunk) (stage : SaidStage) (text : Bytes) (pipe : Pipe) (a : Answer) (r : Reply) → next_of s c ≡ next_in s r → source_number number a.source ≡ r.source → a.has_begun ≡ r.has_begun → ShowsSaid stage text a r
    → (stage ≡ Begun IsPassed → pipe.bytes ≡ passed_part c) → ((id : ObjectId) → a.source ≡ Some id → (x : Known) × (instance s (number id.life) ≡ Some x))
    → ((id : ObjectId) → a.source ≡ Some id → (index : ℕ) → bytes_at (id.slot, index) cs ≡ chunk_bytes (number id.life) index s.chunks) → stage_at_hand stage text pipe cs ≡ reply_by s c (Some r)
stage_same number s c cs Due text pipe a r next source begun shows passes there bytes = sym (ap (λ (b : Bool). begun_by b (r.head_left ++ body_part s c r)) (sym begun ∙ shows.due))
stage_same number s c cs (Begun b) text pipe a r next source begun shows passes there bytes =
    let body : body_at_hand b pipe cs ≡ body_part s c r = begin_same number s c cs b text pipe a r next source shows (λ is. passes (ap (λ (d : Begin). Begun d) is)) there bytes in
    ap₂ (λ (x y : Bytes). x ++ y) (sym (begun_of b text a r shows).1) body
    ∙ sym (ap (λ (b : Bool). begun_by b (r.head_left ++ body_part s c r)) (sym begun ∙ (begun_of b text a r shows).0))

-- ---- what it passes

piped_so : (stage : SaidStage) (brought : SeatBrought) → IsPipedFor stage brought → stage ≡ Begun IsPassed → (x : SeatPassed) × (passed_in brought ≡ Some x)
piped_so stage (PassesOn x) piped is = (x, refl)
piped_so stage NoneYet piped is = absurd (subst (λ (t : SaidStage). IsPipedFor t NoneYet) is piped)
piped_so stage NoneOfUse piped is = absurd (subst (λ (t : SaidStage). IsPipedFor t NoneOfUse) is piped)
piped_so stage (JoinsRow id plain) piped is = absurd (subst (λ (t : SaidStage). IsPipedFor t (JoinsRow id plain)) is piped)
piped_so stage IsTooWide piped is = absurd (subst (λ (t : SaidStage). IsPipedFor t IsTooWide) is piped)
piped_so stage Refused piped is = absurd (subst (λ (t : SaidStage). IsPipedFor t Refused) is piped)

passed_bytes : (name : Bytes) (said : Said) (front : Front) (x : SeatPassed) (o : Option Passed) → ShowsMaybePassed name said front (Some x) o → said.pipe.bytes ≡ (elim o as (λ c. Bytes) [ None ↦ [] | Some p ↦ p.pipe.bytes ])
passed_bytes name said front x (Some p) shows = ap (λ (pipe : Pipe). pipe.bytes) shows.pipe
passed_bytes name said front x None shows = absurd shows

piped_bytes : (number : ℕ → ℕ) (name : Bytes) (seat : Seat) (c : Client) → ShowsOpen number name [] seat c → seat.client.reply.stage ≡ Begun IsPassed → seat.client.reply.pipe.bytes ≡ passed_part c
piped_bytes number name seat c seen is =
    let x : (x : SeatPassed) × (passed_in seat.brought ≡ Some x) = piped_so seat.client.reply.stage seat.brought seen.piped is in
    passed_bytes name seat.client.reply c.front x.0 (passed_of c) (subst (λ (o : Option SeatPassed). ShowsMaybePassed name seat.client.reply c.front o (passed_of c)) x.1 (passed number name [] seat c seen))

-- ---- all of it

silent_same : (s : State) (c : Client) (said : Said) (cs : List Chunk) → said.stage ≡ Due → reply_of c ≡ None → stage_at_hand said.stage said.text said.pipe cs ≡ reply_part s c
silent_same s c said cs due none = ap (λ (stage : SaidStage). stage_at_hand stage said.text said.pipe cs) due ∙ sym (ap (λ (o : Option Reply). reply_by s c o) none)

reply_in : (c : Client) (stage : Stage) → c.stage ≡ stage → reply_of c ≡ (elim stage as (λ c. Option Reply) [ Undecided ↦ None | Waiting ↦ None | Passing ↦ None | Answering r ↦ Some r ])
reply_in c stage is = ap (λ (t : Stage). elim t as (λ c. Option Reply) [ Undecided ↦ None | Waiting ↦ None | Passing ↦ None | Answering r ↦ Some r ]) is

by_stage : (number : ℕ → ℕ) (p : Turn) (s : State) (c : Client) (said : Said) (stage : SeatStage) (other : Stage) → c.is_closing ≡ false → c.stage ≡ other → ShowsStage number said stage other → ShowsTable number p.cache s
    → (said.stage ≡ Begun IsPassed → said.pipe.bytes ≡ passed_part c) → ((a : Answer) (id : ObjectId) → answer_in stage ≡ Some a → a.source ≡ Some id → is_there id p.cache.instances ≡ true)
    → stage_at_hand said.stage said.text said.pipe p.cache.chunks ≡ reply_part s c
by_stage number p s c said IsUndecided Undecided going is shows table passes there = silent_same s c said p.cache.chunks shows.0 (reply_in c Undecided is)
by_stage number p s c said IsWaiting Waiting going is shows table passes there = silent_same s c said p.cache.chunks shows (reply_in c Waiting is)
by_stage number p s c said IsPassing Passing going is shows table passes there = silent_same s c said p.cache.chunks shows (reply_in c Passing is)
by_stage number p s c said (IsAnswering a) (Answering r) going is shows table passes there =
    stage_same number s c p.cache.chunks said.stage said.text said.pipe a r (next_going s c r going (reply_in c (Answering r) is)) shows.source shows.begun shows.says passes
    (λ id own. let one : IsFound number p.cache s id = instances_of number p.cache s table id (there a id refl own) in (one.known, one.there))
    (λ id own index. bytes_of number p.cache s table id index (there a id refl own))
    ∙ sym (ap (λ (o : Option Reply). reply_by s c o) (reply_in c (Answering r) is))
by_stage number p s c said stage other going is shows table passes there = absurd shows

pub offers : OffersAreTheLaws
offers number l peers p s name seat c shows seen going there =
    let live : ShowsOpen number name [] seat c = seen.going going in
    interim_first seat.client.reply.interim c.interim_left (stage_at_hand seat.client.reply.stage seat.client.reply.text seat.client.reply.pipe p.cache.chunks) (reply_part s c) live.interim
    (by_stage number p s c seat.client.reply seat.stage c.stage going refl live.stage shows.steps.shows.table.table (piped_bytes number name seat c live) there)
