-- What an origin sent leaves those who are looked at as they are.
use Rattle.std.proofs.Common.{◌≡◌, refl, ap, ◌∙◌, inl, inr, ℕ, zero, suc, Bool, true, false, List, [], ◌∷◌, Option, Some, None, Ok, Err}
use Rattle.std.specs.List.{find}
use Rattle.std.specs.Prelude.{is_some, nat_le, nat_lt, count_by, take}
use Rattle.pp_answers.specs.FinalHeads.{answer_to, roomed, roomed_by, roomed_for, version_in}
use Rattle.pp_answers.specs.Rows.{with_room_for}
use Rattle.pp_desk.specs.Calls.{Found}
use Rattle.pp_desk.specs.Closings.{Sides}
use Rattle.pp_due.specs.Entering.{HasRowFor, MayCome, with_room_if_over}
use Rattle.pp_flow.specs.Changes.{entry_of}
use Rattle.pp_flow.specs.Entries.{Span}
use Rattle.pp_flow.specs.declared.entry.Aim.{Aim}
use Rattle.pp_flow.specs.declared.entry.Aim.TheVariants.{Own, Hole, Pass as Through}
use Rattle.pp_flow.specs.declared.entry.Entry.{Entry}
use Rattle.pp_flow.specs.declared.entry.Exchange.{Exchange}
use Rattle.pp_framing.specs.declared.body.BodyRule.{BodyRule}
use Rattle.pp_head.specs.Response.{Response}
use Rattle.pp_links.specs.Links.{Link}
use Rattle.pp_objects.specs.Instances.{Instance, is_row}
use Rattle.pp_objects.specs.declared.id.ObjectId.{ObjectId}
use Rattle.pp_origins.specs.Gots.{Answers, Both, DataCame, DataCameThen, DeliversTo, EndsBehind, GoesOnBehind, GotFrom, HeadCameFor, IsReceived, IsStepOn, IsTaken, Makes, Receives, Remains, TakesStep, going_on, head_on, remaining}
use Rattle.pp_origins.specs.Responses.{bad_response, origin_gone, response_whole}
use Rattle.pp_peers.specs.Peers.{is_number}
use Rattle.pp_peers.specs.declared.peers.Peer.{Peer}
use Rattle.pp_pipe.specs.declared.step.Step.{Step}
use Rattle.pp_pipe.specs.declared.step.Step.TheVariants.{Head, Body, End, Bad, Idle}
use Rattle.pp_state.specs.Astray.{gone_astray_where}
use Rattle.pp_state.specs.Bodies.{delivered_for, joined_by, joined_within, left_for}
use Rattle.pp_state.specs.Ends.{exchange_at, parts}
use Rattle.pp_state.specs.Keys.{key_of}
use Rattle.pp_state.specs.Known.{row_for}
use Rattle.pp_state.specs.Lines.{first_on}
use Rattle.pp_state.specs.Pins.{forgotten_row, idle_row, with_room}
use Rattle.pp_state.specs.declared.state.State.{State}
use Rattle.pp_store.specs.Kept.{KeptMap}
use Rattle.pp_valid.specs.declared.version.Version.{Version}
use Rattle.pp_world.specs.Log.{Log}
use Rattle.pp_world.specs.declared.event.Got.TheVariants.{Bytes, End as Ended, NotYet}

-- ---- in a state

forgotten : (o : Option Instance) (s : State) → (forgotten_row o s).awake ≡ s.awake
forgotten None s = refl
forgotten (Some i) s = refl

room : (s : State) → (with_room s).awake ≡ s.awake
room s = by (nat_le 1024 (count_by is_row s.cache.instances))
  where
    by : (b : Bool) → (elim b as (λ t. State) [ true ↦ forgotten_row (idle_row s) s | false ↦ s ]).awake ≡ s.awake
    by true = forgotten (idle_row s) s
    by false = refl

room_if_over : (s : State) → (with_room_if_over s).awake ≡ s.awake
room_if_over s = by (nat_lt 1024 (count_by is_row s.cache.instances))
  where
    by : (b : Bool) → (elim b as (λ t. State) [ true ↦ with_room s | false ↦ s ]).awake ≡ s.awake
    by true = room s
    by false = refl

room_for : (o : Option (ObjectId × Version)) (s : State) → (with_room_for o s).awake ≡ s.awake
room_for None s = room s
room_for (Some row) s = refl

roomed_at : (o : Option Version) (number : ℕ) (s : State) → (roomed o number s).awake ≡ s.awake
roomed_at None number s = refl
roomed_at (Some v) number s = room_for (row_for number (parts s)) s

aimed : (aim : Aim) (x : Entry) (head : Response) (s : State) → (roomed_for aim x.errand head x.exchange.number s).awake ≡ s.awake
aimed Own x head s = roomed_at (version_in x.errand head) x.exchange.number s
aimed (Hole v from to) x head s = roomed_at (version_in x.errand head) x.exchange.number s
aimed Through x head s = refl

head_roomed : (head : Response) (o : Option (Entry × BodyRule)) (s : State) → (roomed_by head o s).awake ≡ s.awake
head_roomed head None s = refl
head_roomed head (Some a) s = aimed a.0.exchange.aim a.0 head s

row_came : (shelf : KeptMap) (o : Option (List ℕ)) (old new : State) → HasRowFor shelf o old new → new.awake ≡ old.awake
row_came shelf None old new is = ap (λ (s : State). s.awake) is
row_came shelf (Some key) old new comes = ap (λ (s : State). s.awake) comes.room ∙ room_if_over comes.entered ∙ entered comes.comes
  where
    entered : MayCome shelf key old comes.entered → comes.entered.awake ≡ old.awake
    entered (inl it) = ap (λ (s : State). s.awake) it.rest
    entered (inr is) = ap (λ (s : State). s.awake) is

-- data

within : (number : ℕ) (o : Option ℕ) (span : Span) (bytes : List ℕ) (s : State) → (joined_within number o span bytes s).awake ≡ s.awake
within number None span bytes s = refl
within number (Some left) span bytes s = refl

joins : (number : ℕ) (o : Option Span) (bytes : List ℕ) (s : State) → (joined_by number o bytes s).awake ≡ s.awake
joins number None bytes s = refl
joins number (Some span) bytes s = within number (left_for number s.flow) span bytes s

delivers : (o : Option Exchange) (number : ℕ) (bytes : List ℕ) (s : State) → (delivered_for o number bytes s).awake ≡ s.awake
delivers None number bytes s = refl
delivers (Some e) number bytes s = joins e.number e.bound bytes s

data_to : (o : Option ℕ) (bytes : List ℕ) (old new : State) → DeliversTo o bytes old new → new.awake ≡ old.awake
data_to None bytes old new is = ap (λ (s : State). s.awake) is
data_to (Some number) bytes old new its = ap (λ (s : State). s.awake) its.rest.rest ∙ delivers (exchange_at number old.flow) number bytes old

data_came : (k : ℕ) (bytes : List ℕ) (old new : State) → DataCame k bytes old new → new.awake ≡ old.awake
data_came k [] old new is = ap (λ (s : State). s.awake) is
data_came k (b ∷ bytes) old new its = data_to (first_on k (parts old)) (b ∷ bytes) old new its

-- ---- with the connections

makes : (made : Sides → Sides) (old new : Both) → Makes made old new → new.state.awake ≡ old.state.awake
makes made old new its = ap (λ (s : State). s.awake) its.rest

data_then : (made : Sides → Sides) (k : ℕ) (came : List ℕ) (old new : Both) → DataCameThen made k came old new → new.state.awake ≡ old.state.awake
data_then made k came old new its = makes made (record old { state = its.between }) new its.makes ∙ data_came k came old.state its.between its.delivers

taken : (o : Option Response) (number : ℕ) (stays : Option Bool) (old new : State) → IsTaken o number stays old new → new.awake ≡ old.awake
taken None number stays old new its = ap (λ (s : State). s.awake) its.1
taken (Some head) number stays old new its = ap (λ (s : State). s.awake) its.rest ∙ head_roomed head (answer_to head (entry_of number old.flow)) old

behind_head : (o : Option Bool) (k : ℕ) (old new : Both) → GoesOnBehind o k old new → new.state.awake ≡ old.state.awake
behind_head None k old new its = makes (bad_response k) old new its
behind_head (Some stays) k old new is = ap (λ (b : Both). b.state.awake) is

answers : (k number : ℕ) (old new : Both) → Answers k number old new → new.state.awake ≡ old.state.awake
answers k number old new its = behind_head its.stays k (record old { state = its.between }) new its.goes_on ∙ taken (head_on k old.peers) number its.stays old.state its.between its.taken

head_came : (o : Option ℕ) (shelf : KeptMap) (k : ℕ) (old new : Both) → HeadCameFor o shelf k old new → new.state.awake ≡ old.state.awake
head_came None shelf k old new its = makes (bad_response k) old new its
head_came (Some number) shelf k old new its = answers k number (record old { state = its.beside }) new its.answers ∙ row_came shelf (key_of number old.state.flow) old.state its.beside its.row

step : (told : Step) (shelf : KeptMap) (k : ℕ) (came : List ℕ) (old new : Both) → TakesStep told shelf k came old new → new.state.awake ≡ old.state.awake
step Head shelf k came old new its = head_came (first_on k (parts old.state)) shelf k old new its
step (Body from to) shelf k came old new is = ap (λ (b : Both). b.state.awake) is
step End shelf k came old new its = data_then (response_whole k) k came old new its
step Bad shelf k came old new its = data_then (bad_response k) k came old new its
step Idle shelf k came old new its = data_came k came old.state new.state its.0

step_on : (o : Option Peer) (shelf : KeptMap) (k : ℕ) (here : Remains) (old new : Both) (left : Option Remains) → IsStepOn o shelf k here old new left → new.state.awake ≡ old.state.awake
step_on None shelf k here old new left its = ap (λ (b : Both). b.state.awake) its.0
step_on (Some peer) shelf k here old new left its = step its.told.1 shelf k here.came (record old { peers = its.fed }) new its.takes

gone : (b : Bool) (s : State) → (gone_astray_where b s).awake ≡ s.awake
gone true s = refl
gone false s = refl

got_from : (more : ℕ) (shelf : KeptMap) (k : ℕ) (o : Option Remains) (old new : Both) → GotFrom more shelf k o old new → new.state.awake ≡ old.state.awake
unfolding GotFrom
got_from zero shelf k o old new is = ap (λ (b : Both). b.state.awake) is ∙ gone (is_some o) old.state
got_from (suc more) shelf k None old new is = ap (λ (b : Both). b.state.awake) is
got_from (suc more) shelf k (Some here) old new (next, left, one, rest) =
    got_from more shelf k left next new rest ∙ step_on (going_on (find (is_number k) old.peers)) shelf k here old next left one

-- ---- a read

ends : (made : Sides → Sides) (old new : Both) → EndsBehind made old new → new.state.awake ≡ old.state.awake
ends made old new its = ap (λ (s : State). s.awake) its.rest

received : (found : Found) (shelf : KeptMap) (k : ℕ) (front : List ℕ) (old new : Both) → IsReceived found shelf k front old new → new.state.awake ≡ old.state.awake
received None shelf k front old new is = ap (λ (b : Both). b.state.awake) is
received (Some (Ok (Bytes n))) shelf k front old new (next, got, behind) =
    ends (λ x. x) next new behind ∙ got_from 65600 shelf k (Some (remaining (take n front) [])) old next got
received (Some (Ok Ended)) shelf k front old new its = ends (origin_gone true k) old new its
received (Some (Ok NotYet)) shelf k front old new is = ap (λ (b : Both). b.state.awake) is
received (Some (Err fault)) shelf k front old new its = ends (origin_gone false k) old new its

pub receives : (most : ℕ) (shelf : KeptMap) (k : ℕ) (links : List Link) (x y : Both) (old new : Option Log) → Receives most shelf k links x y old new → y.state.awake ≡ x.state.awake
receives most shelf k links x y old new its = received its.found shelf k its.front its.begins y its.is ∙ makes (λ z. z) x its.begins its.same
