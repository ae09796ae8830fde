-- What computes a state of the law to its end, so that a log can be judged in pieces. Written by transcripts/make_rows.
use Rattle.std.specs.Prelude.{⊤}
use Rattle.std.proofs.Common.{ℕ, zero, suc, ◌+◌, List, [], ◌∷◌, Bool, true, false, Option, Some, None, Result, Ok, Err}
use Rattle.pp_conf.specs.Conf.{Settings}
use Rattle.pp_head.specs.Request.{Request}
use Rattle.pp_head.specs.Response.{Response}
use Rattle.pp_pass.specs.Pipe.{Pipe}
use Rattle.pp_target.specs.Key.{Key}
use Rattle.pp_fresh.specs.declared.aging.Times.{Times}
use Rattle.pp_valid.specs.declared.version.Version.{Version}
use Rattle.pp_framing.specs.declared.body.BodyRule.{BodyRule}
use Rattle.pp_framing.specs.declared.body.BodyRule.TheVariants.{Empty, Length, Chunked, ToEnd}
use Rattle.pp_framing.specs.declared.framing.FramingFault.{FramingFault}
use Rattle.pp_framing.specs.declared.framing.FramingFault.TheVariants.{TwoLengths, BadLength, OtherCoding}
use Rattle.pp_target.specs.declared.target.TargetFault.{TargetFault}
use Rattle.pp_target.specs.declared.target.TargetFault.TheVariants.{NotAbsolute, NotHttp, BadHost, BadPort, TooLong, OutOfMemory}
use Rattle.pp_world.specs.declared.note.Decision.{Decision}
use Rattle.pp_world.specs.declared.note.Decision.TheVariants.{Refuse, Hit, Part, Head, NotModified, Unsatisfiable, Relay, Validate, Fetch, Pass}
use Rattle.pp_world.specs.declared.op.DiskOp.{DiskOp}
use Rattle.pp_world.specs.declared.op.DiskOp.TheVariants.{Draft, SyncDraft, Publish, Write, Sync, Remove}
use Rattle.pp_world.specs.declared.door.AddressRange.{AddressRange}
use Rattle.pp_text.specs.Fields.{Field}
use Rattle.pp_world.specs.Log.{Log}
use Rattle.pp_world.specs.declared.happening.Happening.{Happening}
use Rattle.pp_world.specs.declared.happening.Happening.TheVariants.{Woke, Began, Did}
use Rattle.pp_law.specs.Requests.{Parsed, Front, NoHeadYet, NoHead, IsRequest}
use Rattle.pp_law.specs.State.{Sent, Term, Instance, Chunk, Entry, Bound, Exchange, Answer, Conn, Passed, Shared, Reply, Client, Agenda, State, Aim, Body, Brought, Course, Stage, Phase, Owed, Todo, Through, Own, Filling, Pending, Joining, Relaying, Dropping, Awaited, Useless, Joins, Passes, TooWide, Trying, OutOfTries, AskTooLong, RowRefused, Undecided, Waiting, Passing, Answering, Before, IsWoken, IsConfigured, IsRooted, IsListed, IsListening, IsStuck, Awaiting, Handling, Evicting, Keeping, Deciding, Following, Connecting, DecidingAgain, Free, ReadOf, WriteTo, Do, Enter, Acknowledge}
use Rattle.pp_law.specs.Lists.{Bytes}
use Rattle.pp_law.specs.After.{after}
use Rattle.pp_law.specs.Permits.{is_permitted}
use Rattle.pp_law.specs.Lawful.{Rule, Fault, rule_of, ImageNotLeft, OpeningOutOfOrder, EventOutOfTurn, ReadNotAskedFor, FailureMadeUp, WrongReply, WrongAsk, WrongDecision, WrongCut, NotToBeClosed, NotToBeDialled, NotToBeEvicted, NotToBeForgotten, NotToBeLoaded, NotSealed, NotGone, WrongDiskOperation, StepUnfinished, AcceptsWrongly, ClientForgotten, ConnectionForgotten, ExchangeForgotten, WantsTooMuch}
use Rattle.pp_law.proofs.OnLiterals.{pp_law_on_literals}

pub data Out : Type 0 where
  arrived : State → Out
  wrong : ℕ → Rule → Out

unfoldable pub forced_nat : ℕ → (ℕ → Out) → Out
forced_nat zero k = k zero
forced_nat (suc n) k = k (suc n)

unfoldable pub forced_Bool : Bool → (Bool → Out) → Out
forced_Bool true k = k true
forced_Bool false k = k false

unfoldable pub forced_list : {A : Type 0} → (A → (A → Out) → Out) → List A → (List A → Out) → Out
forced_list f [] k = k []
forced_list f (x ∷ xs) k = f x (λ y. forced_list f xs (λ ys. k (y ∷ ys)))

unfoldable pub forced_option : {A : Type 0} → (A → (A → Out) → Out) → Option A → (Option A → Out) → Out
forced_option f None k = k None
forced_option f (Some x) k = f x (λ y. k (Some y))

unfoldable pub forced_result : {A B : Type 0}
    → (A → (A → Out) → Out) → (B → (B → Out) → Out) → Result A B → (Result A B → Out) → Out
forced_result f g (Ok x) k = f x (λ y. k (Ok y))
forced_result f g (Err x) k = g x (λ y. k (Err y))

unfoldable pub forced_field : List ℕ × List ℕ → (List ℕ × List ℕ → Out) → Out
forced_field p k = forced_list forced_nat p.0 (λ a. forced_list forced_nat p.1 (λ b. k (a, b)))

unfoldable pub forced_DiskOp : DiskOp → (DiskOp → Out) → Out
forced_DiskOp (Draft x0) k = (forced_list forced_nat) x0 (λ x0'. k (Draft x0'))
forced_DiskOp SyncDraft k = k SyncDraft
forced_DiskOp (Publish x0) k = (forced_list forced_nat) x0 (λ x0'. k (Publish x0'))
forced_DiskOp (Write x0 x1 x2) k = (forced_list forced_nat) x0 (λ x0'. forced_nat x1 (λ x1'. (forced_list forced_nat) x2 (λ x2'. k (Write x0' x1' x2'))))
forced_DiskOp (Sync x0) k = (forced_list forced_nat) x0 (λ x0'. k (Sync x0'))
forced_DiskOp (Remove x0) k = (forced_list forced_nat) x0 (λ x0'. k (Remove x0'))

unfoldable pub forced_Happening : Happening → (Happening → Out) → Out
forced_Happening (Woke files) k = forced_list forced_field files (λ files'. k (Woke files'))
forced_Happening (Began op) k = forced_DiskOp op (λ op'. k (Began op'))
forced_Happening (Did op ok) k = forced_DiskOp op (λ op'. forced_Bool ok (λ ok'. k (Did op' ok')))
forced_Happening h k = k h

unfoldable pub forced_Version : Version → (Version → Out) → Out
forced_Version x k = (forced_list forced_nat) x.tag (λ tag'. forced_nat x.length (λ length'. k (record { tag = tag'; length = length' })))

unfoldable pub forced_Sent : Sent → (Sent → Out) → Out
forced_Sent x k = (forced_list forced_nat) x.key (λ key'. forced_Version x.version (λ version'. forced_nat x.at (λ at'. (forced_list forced_nat) x.bytes (λ bytes'. k (record { key = key'; version = version'; at = at'; bytes = bytes' })))))

unfoldable pub forced_Times : Times → (Times → Out) → Out
forced_Times x k = forced_nat x.request (λ request'. forced_nat x.response (λ response'. forced_nat x.initial (λ initial'. forced_Bool x.may_guess (λ may_guess'. k (record { request = request'; response = response'; initial = initial'; may_guess = may_guess' })))))

unfoldable pub forced_Entry : Entry → (Entry → Out) → Out
forced_Entry x k = (forced_list forced_nat) x.name (λ name'. (forced_list forced_nat) x.key (λ key'. forced_Version x.version (λ version'. (forced_list forced_field) x.fields (λ fields'. forced_Times x.times (λ times'. forced_nat x.extent (λ extent'. forced_Bool x.is_stale (λ is_stale'. k (record { name = name'; key = key'; version = version'; fields = fields'; times = times'; extent = extent'; is_stale = is_stale' }))))))))

unfoldable pub forced_Term : Term → (Term → Out) → Out
forced_Term x k = (forced_list (forced_list forced_nat)) x.words (λ words'. forced_nat x.faults (λ faults'. k (record { words = words'; faults = faults' })))

unfoldable pub forced_AddressRange : AddressRange → (AddressRange → Out) → Out
forced_AddressRange x k = forced_nat x.address (λ address'. forced_nat x.bits (λ bits'. k (record { address = address'; bits = bits' })))

unfoldable pub forced_Settings : Settings → (Settings → Out) → Out
forced_Settings x k = forced_nat x.port (λ port'. forced_nat x.address (λ address'. (forced_list forced_AddressRange) x.allowed (λ allowed'. (forced_list forced_nat) x.name (λ name'. (forced_list forced_nat) x.root (λ root'. forced_nat x.low (λ low'. forced_nat x.high (λ high'. forced_nat x.critical (λ critical'. forced_nat x.disk_run (λ disk_run'. forced_nat x.max_turns (λ max_turns'. forced_Bool x.shares_fetches (λ shares_fetches'. forced_Bool x.pipelines_asks (λ pipelines_asks'. forced_nat x.host_connections (λ host_connections'. (forced_list forced_nat) x.access_log (λ access_log'. k (record { port = port'; address = address'; allowed = allowed'; name = name'; root = root'; low = low'; high = high'; critical = critical'; disk_run = disk_run'; max_turns = max_turns'; shares_fetches = shares_fetches'; pipelines_asks = pipelines_asks'; host_connections = host_connections'; access_log = access_log' })))))))))))))))

unfoldable pub forced_Phase : Phase → (Phase → Out) → Out
forced_Phase Before k = k Before
forced_Phase IsWoken k = k IsWoken
forced_Phase IsConfigured k = k IsConfigured
forced_Phase IsRooted k = k IsRooted
forced_Phase IsListed k = k IsListed
forced_Phase IsListening k = k IsListening
forced_Phase IsStuck k = k IsStuck
forced_Phase Awaiting k = k Awaiting
forced_Phase Handling k = k Handling
forced_Phase Evicting k = k Evicting
forced_Phase Keeping k = k Keeping
forced_Phase Deciding k = k Deciding
forced_Phase Following k = k Following
forced_Phase Connecting k = k Connecting
forced_Phase DecidingAgain k = k DecidingAgain

unfoldable pub forced_Request : Request → (Request → Out) → Out
forced_Request x k = (forced_list forced_nat) x.method (λ method'. (forced_list forced_nat) x.target (λ target'. forced_nat x.minor (λ minor'. (forced_list forced_field) x.fields (λ fields'. forced_nat x.length (λ length'. k (record { method = method'; target = target'; minor = minor'; fields = fields'; length = length' }))))))

unfoldable pub forced_Key : Key → (Key → Out) → Out
forced_Key x k = (forced_list forced_nat) x.host (λ host'. forced_nat x.port (λ port'. (forced_list forced_nat) x.path (λ path'. k (record { host = host'; port = port'; path = path' }))))

unfoldable pub forced_TargetFault : TargetFault → (TargetFault → Out) → Out
forced_TargetFault NotAbsolute k = k NotAbsolute
forced_TargetFault NotHttp k = k NotHttp
forced_TargetFault BadHost k = k BadHost
forced_TargetFault BadPort k = k BadPort
forced_TargetFault TooLong k = k TooLong
forced_TargetFault OutOfMemory k = k OutOfMemory

unfoldable pub forced_BodyRule : BodyRule → (BodyRule → Out) → Out
forced_BodyRule Empty k = k Empty
forced_BodyRule (Length x0) k = forced_nat x0 (λ x0'. k (Length x0'))
forced_BodyRule Chunked k = k Chunked
forced_BodyRule ToEnd k = k ToEnd

unfoldable pub forced_FramingFault : FramingFault → (FramingFault → Out) → Out
forced_FramingFault TwoLengths k = k TwoLengths
forced_FramingFault BadLength k = k BadLength
forced_FramingFault OtherCoding k = k OtherCoding

unfoldable pub forced_Parsed : Parsed → (Parsed → Out) → Out
forced_Parsed x k = forced_Request x.head (λ head'. (forced_result forced_Key forced_TargetFault) x.key (λ key'. (forced_result forced_BodyRule forced_FramingFault) x.rule (λ rule'. k (record { head = head'; key = key'; rule = rule' }))))

unfoldable pub forced_Front : Front → (Front → Out) → Out
forced_Front NoHeadYet k = k NoHeadYet
forced_Front (NoHead x0) k = forced_nat x0 (λ x0'. k (NoHead x0'))
forced_Front (IsRequest x0) k = forced_Parsed x0 (λ x0'. k (IsRequest x0'))

unfoldable pub forced_Decision : Decision → (Decision → Out) → Out
forced_Decision (Refuse x0) k = forced_nat x0 (λ x0'. k (Refuse x0'))
forced_Decision (Hit x0 x1) k = forced_nat x0 (λ x0'. forced_nat x1 (λ x1'. k (Hit x0' x1')))
forced_Decision (Part x0 x1) k = forced_nat x0 (λ x0'. forced_nat x1 (λ x1'. k (Part x0' x1')))
forced_Decision Head k = k Head
forced_Decision NotModified k = k NotModified
forced_Decision Unsatisfiable k = k Unsatisfiable
forced_Decision Relay k = k Relay
forced_Decision Validate k = k Validate
forced_Decision Fetch k = k Fetch
forced_Decision Pass k = k Pass

unfoldable pub forced_Reply : Reply → (Reply → Out) → Out
forced_Reply x k = forced_Decision x.decision (λ decision'. (forced_option forced_nat) x.source (λ source'. forced_Bool x.has_begun (λ has_begun'. (forced_list forced_nat) x.head_left (λ head_left'. forced_nat x.at (λ at'. forced_nat x.to (λ to'. k (record { decision = decision'; source = source'; has_begun = has_begun'; head_left = head_left'; at = at'; to = to' })))))))

unfoldable pub forced_Stage : Stage → (Stage → Out) → Out
forced_Stage Undecided k = k Undecided
forced_Stage Waiting k = k Waiting
forced_Stage Passing k = k Passing
forced_Stage (Answering x0) k = forced_Reply x0 (λ x0'. k (Answering x0'))

unfoldable pub forced_Shared : Shared → (Shared → Out) → Out
forced_Shared x k = forced_nat x.exchange (λ exchange'. forced_nat x.since (λ since'. k (record { exchange = exchange'; since = since' })))

unfoldable pub forced_Response : Response → (Response → Out) → Out
forced_Response x k = forced_nat x.minor (λ minor'. forced_nat x.status (λ status'. (forced_list forced_nat) x.reason (λ reason'. (forced_list forced_field) x.fields (λ fields'. forced_nat x.length (λ length'. k (record { minor = minor'; status = status'; reason = reason'; fields = fields'; length = length' }))))))

unfoldable pub forced_Pipe : Pipe → (Pipe → Out) → Out
forced_Pipe x k = (forced_list forced_nat) x.bytes (λ bytes'. forced_Bool x.is_coded (λ is_coded'. forced_Bool x.is_finished (λ is_finished'. k (record { bytes = bytes'; is_coded = is_coded'; is_finished = is_finished' }))))

unfoldable pub forced_Passed : Passed → (Passed → Out) → Out
forced_Passed x k = forced_Response x.head (λ head'. forced_BodyRule x.rule (λ rule'. forced_Pipe x.pipe (λ pipe'. forced_Bool x.is_short (λ is_short'. k (record { head = head'; rule = rule'; pipe = pipe'; is_short = is_short' })))))

unfoldable pub forced_Brought : Brought → (Brought → Out) → Out
forced_Brought Awaited k = k Awaited
forced_Brought Useless k = k Useless
forced_Brought (Joins x0 x1) k = forced_nat x0 (λ x0'. forced_Bool x1 (λ x1'. k (Joins x0' x1')))
forced_Brought (Passes x0) k = forced_Passed x0 (λ x0'. k (Passes x0'))
forced_Brought TooWide k = k TooWide

unfoldable pub forced_Course : Course → (Course → Out) → Out
forced_Course (Trying x0) k = forced_nat x0 (λ x0'. k (Trying x0'))
forced_Course OutOfTries k = k OutOfTries
forced_Course AskTooLong k = k AskTooLong
forced_Course RowRefused k = k RowRefused

unfoldable pub forced_Client : Client → (Client → Out) → Out
forced_Client x k = forced_nat x.number (λ number'. forced_Bool x.is_new (λ is_new'. forced_Bool x.has_hung_up (λ has_hung_up'. forced_Front x.front (λ front'. (forced_list forced_nat) x.heard (λ heard'. forced_nat x.body_left (λ body_left'. forced_nat x.skip (λ skip'. forced_nat x.index (λ index'. forced_Stage x.stage (λ stage'. (forced_option forced_Shared) x.waits_on (λ waits_on'. forced_Brought x.brought (λ brought'. forced_Course x.course (λ course'. forced_Bool x.has_given_up (λ has_given_up'. (forced_list forced_nat) x.interim_left (λ interim_left'. forced_Bool x.closes (λ closes'. forced_Bool x.is_closing (λ is_closing'. forced_Bool x.is_cut (λ is_cut'. forced_nat x.mark (λ mark'. k (record { number = number'; is_new = is_new'; has_hung_up = has_hung_up'; front = front'; heard = heard'; body_left = body_left'; skip = skip'; index = index'; stage = stage'; waits_on = waits_on'; brought = brought'; course = course'; has_given_up = has_given_up'; interim_left = interim_left'; closes = closes'; is_closing = is_closing'; is_cut = is_cut'; mark = mark' })))))))))))))))))))

unfoldable pub forced_Answer : Answer → (Answer → Out) → Out
forced_Answer x k = forced_Response x.head (λ head'. (forced_option forced_Version) x.version (λ version'. forced_BodyRule x.rule (λ rule'. (forced_list forced_nat) x.raw (λ raw'. k (record { head = head'; version = version'; rule = rule'; raw = raw' })))))

unfoldable pub forced_Conn : Conn → (Conn → Out) → Out
forced_Conn x k = forced_nat x.number (λ number'. (forced_list forced_nat) x.host (λ host'. forced_nat x.port (λ port'. forced_Bool x.is_reached (λ is_reached'. (forced_list forced_nat) x.line (λ line'. (forced_list forced_nat) x.unread (λ unread'. (forced_option forced_Answer) x.answer (λ answer'. forced_Bool x.has_brought (λ has_brought'. forced_Bool x.may_pipeline (λ may_pipeline'. forced_Bool x.is_closing (λ is_closing'. forced_nat x.mark (λ mark'. forced_Bool x.has_waited (λ has_waited'. k (record { number = number'; host = host'; port = port'; is_reached = is_reached'; line = line'; unread = unread'; answer = answer'; has_brought = has_brought'; may_pipeline = may_pipeline'; is_closing = is_closing'; mark = mark'; has_waited = has_waited' })))))))))))))

unfoldable pub forced_Aim : Aim → (Aim → Out) → Out
forced_Aim Through k = k Through
forced_Aim Own k = k Own
forced_Aim (Filling x0 x1 x2) k = forced_Version x0 (λ x0'. forced_nat x1 (λ x1'. forced_nat x2 (λ x2'. k (Filling x0' x1' x2'))))

unfoldable pub forced_Bound : Bound → (Bound → Out) → Out
forced_Bound x k = forced_nat x.instance (λ instance'. forced_nat x.next (λ next'. forced_nat x.to (λ to'. forced_nat x.wanted (λ wanted'. forced_Bool x.is_all (λ is_all'. k (record { instance = instance'; next = next'; to = to'; wanted = wanted'; is_all = is_all' }))))))

unfoldable pub forced_Body : Body → (Body → Out) → Out
forced_Body Pending k = k Pending
forced_Body (Joining x0) k = forced_Bound x0 (λ x0'. k (Joining x0'))
forced_Body Relaying k = k Relaying
forced_Body Dropping k = k Dropping

unfoldable pub forced_Exchange : Exchange → (Exchange → Out) → Out
forced_Exchange x k = forced_nat x.number (λ number'. (forced_option forced_nat) x.asker (λ asker'. forced_Request x.head (λ head'. forced_Key x.key (λ key'. forced_Aim x.aim (λ aim'. (forced_option (forced_list forced_nat)) x.named (λ named'. forced_Bool x.is_ranged (λ is_ranged'. forced_Bool x.is_moved (λ is_moved'. (forced_list forced_nat) x.text (λ text'. forced_nat x.asked (λ asked'. forced_nat x.body_left (λ body_left'. forced_nat x.requested (λ requested'. (forced_option forced_nat) x.place (λ place'. forced_Body x.body (λ body'. k (record { number = number'; asker = asker'; head = head'; key = key'; aim = aim'; named = named'; is_ranged = is_ranged'; is_moved = is_moved'; text = text'; asked = asked'; body_left = body_left'; requested = requested'; place = place'; body = body' })))))))))))))))

unfoldable pub forced_Instance : Instance → (Instance → Out) → Out
forced_Instance x k = forced_nat x.id (λ id'. (forced_list forced_nat) x.key (λ key'. forced_Version x.version (λ version'. (forced_list forced_field) x.fields (λ fields'. forced_Times x.times (λ times'. forced_Bool x.is_retired (λ is_retired'. forced_Bool x.is_new (λ is_new'. k (record { id = id'; key = key'; version = version'; fields = fields'; times = times'; is_retired = is_retired'; is_new = is_new' }))))))))

unfoldable pub forced_Chunk : Chunk → (Chunk → Out) → Out
forced_Chunk x k = forced_nat x.instance (λ instance'. forced_nat x.index (λ index'. (forced_list forced_nat) x.bytes (λ bytes'. k (record { instance = instance'; index = index'; bytes = bytes' }))))

unfoldable pub forced_Owed : Owed → (Owed → Out) → Out
forced_Owed Free k = k Free
forced_Owed (ReadOf x0) k = forced_nat x0 (λ x0'. k (ReadOf x0'))
forced_Owed (WriteTo x0) k = forced_nat x0 (λ x0'. k (WriteTo x0'))

unfoldable pub forced_Todo : Todo → (Todo → Out) → Out
forced_Todo (Do x0) k = forced_DiskOp x0 (λ x0'. k (Do x0'))
forced_Todo (Enter x0) k = forced_Entry x0 (λ x0'. k (Enter x0'))
forced_Todo (Acknowledge x0 x1 x2 x3) k = (forced_list forced_nat) x0 (λ x0'. (forced_list forced_nat) x1 (λ x1'. forced_nat x2 (λ x2'. forced_nat x3 (λ x3'. k (Acknowledge x0' x1' x2' x3')))))

unfoldable pub forced_Agenda : Agenda → (Agenda → Out) → Out
forced_Agenda x k = (forced_list forced_nat) x.name (λ name'. (forced_list forced_Todo) x.todo (λ todo'. k (record { name = name'; todo = todo' })))

unfoldable pub forced_State : State → (State → Out) → Out
forced_State x k = (forced_list forced_Sent) x.sent (λ sent'. (forced_list forced_Entry) x.acknowledged (λ acknowledged'. (forced_list forced_Happening) x.disk (λ disk'. forced_nat x.top (λ top'. (forced_list forced_Term) x.terms (λ terms'. forced_Term x.term (λ term'. forced_Settings x.settings (λ settings'. forced_Phase x.phase (λ phase'. forced_nat x.clock (λ clock'. forced_Bool x.has_ticked (λ has_ticked'. forced_nat x.failures (λ failures'. (forced_list forced_Client) x.clients (λ clients'. (forced_list forced_Conn) x.conns (λ conns'. (forced_list forced_Exchange) x.exchanges (λ exchanges'. forced_nat x.next_exchange (λ next_exchange'. (forced_list forced_Instance) x.instances (λ instances'. forced_nat x.next_instance (λ next_instance'. (forced_list forced_Chunk) x.chunks (λ chunks'. (forced_list forced_Entry) x.entries (λ entries'. (forced_list (forced_list forced_nat)) x.closed_names (λ closed_names'. (forced_option forced_DiskOp) x.under_way (λ under_way'. (forced_list (forced_list forced_nat)) x.displaced (λ displaced'. forced_Bool x.has_lost_draft (λ has_lost_draft'. forced_Bool x.is_ticked (λ is_ticked'. forced_Bool x.is_stopped (λ is_stopped'. forced_Owed x.owed (λ owed'. forced_Bool x.is_evicting (λ is_evicting'. (forced_list (forced_list forced_nat)) x.forgotten (λ forgotten'. (forced_option forced_nat) x.has_made_room (λ has_made_room'. forced_Agenda x.agenda (λ agenda'. k (record { sent = sent'; acknowledged = acknowledged'; disk = disk'; top = top'; terms = terms'; term = term'; settings = settings'; phase = phase'; clock = clock'; has_ticked = has_ticked'; failures = failures'; clients = clients'; conns = conns'; exchanges = exchanges'; next_exchange = next_exchange'; instances = instances'; next_instance = next_instance'; chunks = chunks'; entries = entries'; closed_names = closed_names'; under_way = under_way'; displaced = displaced'; has_lost_draft = has_lost_draft'; is_ticked = is_ticked'; is_stopped = is_stopped'; owed = owed'; is_evicting = is_evicting'; forgotten = forgotten'; has_made_room = has_made_room'; agenda = agenda' })))))))))))))))))))))))))))))))

-- what a piece of a log leaves, or the first of it that may not be
unfoldable pub judge : ℕ → State → Log → Out
judge n s [] = forced_State s arrived
judge n s (h ∷ log) = elim (is_permitted s h) [ true ↦ judge (n + 1) (after s h) log | false ↦ wrong n (rule_of s h) ]

-- a verdict, computed to its end
pub data Told : Type 0 where
  told : Option Fault → Told

unfoldable pub tell_rule : Rule → ℕ → Told
tell_rule ImageNotLeft n = told (Some (record { at = n; rule = ImageNotLeft }))
tell_rule OpeningOutOfOrder n = told (Some (record { at = n; rule = OpeningOutOfOrder }))
tell_rule EventOutOfTurn n = told (Some (record { at = n; rule = EventOutOfTurn }))
tell_rule ReadNotAskedFor n = told (Some (record { at = n; rule = ReadNotAskedFor }))
tell_rule FailureMadeUp n = told (Some (record { at = n; rule = FailureMadeUp }))
tell_rule WrongReply n = told (Some (record { at = n; rule = WrongReply }))
tell_rule WrongAsk n = told (Some (record { at = n; rule = WrongAsk }))
tell_rule WrongDecision n = told (Some (record { at = n; rule = WrongDecision }))
tell_rule WrongCut n = told (Some (record { at = n; rule = WrongCut }))
tell_rule NotToBeClosed n = told (Some (record { at = n; rule = NotToBeClosed }))
tell_rule NotToBeDialled n = told (Some (record { at = n; rule = NotToBeDialled }))
tell_rule NotToBeEvicted n = told (Some (record { at = n; rule = NotToBeEvicted }))
tell_rule NotToBeForgotten n = told (Some (record { at = n; rule = NotToBeForgotten }))
tell_rule NotToBeLoaded n = told (Some (record { at = n; rule = NotToBeLoaded }))
tell_rule NotSealed n = told (Some (record { at = n; rule = NotSealed }))
tell_rule NotGone n = told (Some (record { at = n; rule = NotGone }))
tell_rule WrongDiskOperation n = told (Some (record { at = n; rule = WrongDiskOperation }))
tell_rule StepUnfinished n = told (Some (record { at = n; rule = StepUnfinished }))
tell_rule AcceptsWrongly n = told (Some (record { at = n; rule = AcceptsWrongly }))
tell_rule ClientForgotten n = told (Some (record { at = n; rule = ClientForgotten }))
tell_rule ConnectionForgotten n = told (Some (record { at = n; rule = ConnectionForgotten }))
tell_rule ExchangeForgotten n = told (Some (record { at = n; rule = ExchangeForgotten }))
tell_rule WantsTooMuch n = told (Some (record { at = n; rule = WantsTooMuch }))

unfoldable pub tell : Option Fault → Told
tell None = told None
tell (Some f) = tell_rule f.rule f.at

-- what a row unfolds
unfoldable pub judging : ⊤
unfolding pp_law_on_literals judge tell tell_rule
    forced_DiskOp forced_Version forced_Sent forced_Times forced_Entry forced_Term
    forced_AddressRange forced_Settings forced_Phase forced_Request forced_Key forced_TargetFault
    forced_BodyRule forced_FramingFault forced_Parsed forced_Front forced_Decision forced_Reply
    forced_Stage forced_Shared forced_Response forced_Pipe forced_Passed forced_Brought
    forced_Course forced_Client forced_Answer forced_Conn forced_Aim forced_Bound
    forced_Body forced_Exchange forced_Instance forced_Chunk forced_Owed forced_Todo
    forced_Agenda forced_State forced_nat forced_Bool forced_list forced_option
    forced_result forced_field forced_Happening
judging = tt
