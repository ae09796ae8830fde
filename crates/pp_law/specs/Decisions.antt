-- What is decided for a request, by what is known of its key (RFC 2616, sections 13 and 14; RFC 6585, section 5).
use Rattle.std.specs.Prelude.{ℕ, Bool, true, false, ◌==◌, nat_le, length, Option, Some, None, option_map, Ok, Err}
use Rattle.std.specs.Borrow.{Bor}
use Rattle.pp_ask.specs.Texts.{ask_text}
use Rattle.pp_ask.specs.declared.kind.AskKind.{AskKind}
use Rattle.pp_ask.specs.declared.kind.AskKind.TheVariants.{Whole as AsWhole, Range as AsRange, Check as AsCheck, Pass as AsPassed}
use Rattle.pp_head.specs.Request.{Request}
use Rattle.pp_plan.specs.Decision.{decision}
use Rattle.pp_plan.specs.Fetch.{fetch_range}
use Rattle.pp_plan.specs.Row.{Row}
use Rattle.pp_plan.specs.declared.table.Begun.{Begun}
use Rattle.pp_plan.specs.declared.table.Begun.TheVariants.{Nothing, Settled, Other, Widened}
use Rattle.pp_target.specs.Key.{Key, text_of}
use Rattle.pp_world.specs.declared.note.Decision.{Decision}
use Rattle.pp_world.specs.declared.note.Decision.TheVariants.{Refuse, Validate, Fetch, Pass}
use Rattle.pp_law.specs.Lists.{Bytes, is_some_with}
use Rattle.pp_law.specs.Requests.{Parsed, NoHeadYet, NoHead, IsRequest, refusal_of}
use Rattle.pp_law.specs.State.{State, Client, Awaited, Useless, Joins, Passes, TooWide}
use Rattle.pp_law.specs.Table.{row, row_for}

-- ours: the text of an ask has at most 16,384 bytes
abbrev pub text_limit : ℕ
text_limit = 16384

abbrev pub fits : Bytes → Bool
fits text = nat_le (length text) text_limit

-- what is asked first where nothing is known: a range from the front of a chunk on, or the whole
abbrev pub fetch_kind : Request → AskKind
fetch_kind head = elim (fetch_range head.fields) [ None ↦ AsWhole | Some range ↦ AsRange range.0 range.1 ]

abbrev pub lent : Bytes → Bor Bytes
lent bytes = record { ref_ptr = (0, 0); now = bytes }

-- the ask of a decision that asks an origin
abbrev pub kind_of : Request → Option Row → Decision → Option AskKind
kind_of head row Fetch = Some (fetch_kind head)
kind_of head row Validate = option_map (λ r. AsCheck (lent r.version.tag)) row
kind_of head row Pass = Some AsPassed
kind_of head row d = None

abbrev pub text_for : State → Request → Key → AskKind → Bytes
text_for s head key kind = ask_text kind head key s.settings.name

-- what is asked has to fit into an ask
abbrev pub if_fits : State → Request → Key → Option AskKind → Decision → Decision
if_fits s head key None d = d
if_fits s head key (Some kind) d = elim (fits (text_for s head key kind)) [ true ↦ d | false ↦ Refuse 431 ]

-- what its exchange brought; a body counts as long as it belongs to the row
abbrev pub begun_now : State → Client → Bytes → Begun
begun_now s c key = elim c.brought [
  | Awaited ↦ Nothing
  | Useless ↦ Nothing
  | Joins id plain ↦ elim (is_some_with (λ x. x.id == id) (row s key)) [ true ↦ Settled | false ↦ Nothing ]
  | Passes p ↦ Other
  | TooWide ↦ Widened
]

abbrev pub decide_for : State → Client → Request → Key → Decision
decide_for s c head key =
    let seen = row_for s head (text_of key) in
    let d = decision head seen (begun_now s c (text_of key)) s.clock in
    if_fits s head key (kind_of head seen d) d

-- first what the head alone refuses
abbrev pub decide_head : State → Client → Parsed → Decision
decide_head s c r = elim (refusal_of r) [
  | Some status ↦ Refuse status
  | None ↦ elim r.key [ Ok key ↦ decide_for s c r.head key | Err fault ↦ Refuse 400 ]
]

-- none while no request is there
abbrev pub decide : State → Client → Option Decision
decide s c = elim c.front [ NoHeadYet ↦ None | NoHead status ↦ Some (Refuse status) | IsRequest r ↦ Some (decide_head s c r) ]
