-- A kept row that comes in leaves what is due of all as it was.
use Rattle.std.proofs.Common.{arith, ◌≡◌, ◌<◌, refl, sym, ap, ap₂, ◌∙◌, ℕ, Bool, true, false, not, ◌&&◌, ◌||◌, ◌==◌, cond, find, List, [], ◌∷◌, ◌++◌, length, Option, Some, None, option_map}
use Rattle.std.proofs.lemmas.Bool.Decides.{nat_tests}
use Rattle.pp_cache.specs.Memory.{Memory}
use Rattle.pp_cache_law.proofs.Finds.{find_joined, first_of_two}
use Rattle.pp_cache_law.proofs.Making.{below_next}
use Rattle.pp_cache_law.specs.Pairs.{AreAll}
use Rattle.pp_cache_law.specs.Tables.{ShowsChunk, ShowsTable}
use Rattle.pp_holes.specs.Places.{Chunk}
use Rattle.pp_law.specs.Chunks.{filled, is_chunk}
use Rattle.pp_law.specs.Connections.{is_trying}
use Rattle.pp_law.specs.Decisions.{decide}
use Rattle.pp_law.specs.Due.{Due, Decide, CutOff, causes, due_by_stage, due_of, give_up, is_idle, is_short, is_told}
use Rattle.pp_law.specs.Lists.{Bytes, is_some_with}
use Rattle.pp_law.specs.Offers.{is_at_body, passed_part, piece}
use Rattle.pp_law.specs.Sharing.{due_first, is_patient}
use Rattle.pp_law.specs.Stages.{is_begun, is_followed_by, is_passing, reply_of}
use Rattle.pp_law.specs.State.{State, Client, Entry, Instance, Reply, Shared, Stage, Undecided, Waiting, Passing, Answering, Chunk as Front}
use Rattle.pp_law.specs.Table.{Next, add_row, instance, is_instance, is_next_held, is_provided, next_from, next_in, next_of, row, row_on_disk}
use Rattle.pp_text.specs.Bytes.{is_empty}
use Rattle.pp_world.specs.declared.note.Cause.{Cause}
use Rattle.pp_world.specs.declared.note.Cause.TheVariants.{Superseded, Origin, Short, Idle, Stop}
use Rattle.pp_world.specs.declared.note.Decision.{Decision}
use Rattle.pp_turns_law.proofs.Decides.{ComesIn, decided_same, grown, known_of}
use Rattle.pp_turns_law.specs.Rows.{DuesStayAsTheyWere, IsMadeBefore, with_entry, with_row_of}

-- ---- what it follows

abbrev pub source_by : State → Option ℕ → Option Instance
source_by s source = elim source [ None ↦ None | Some id ↦ instance s id ]

source_same : (s : State) (key : Bytes) (e : Entry) (source : Option ℕ) → ((id : ℕ) → source ≡ Some id → (x : Instance) × (instance s id ≡ Some x)) → source_by (grown s key e) source ≡ source_by s source
source_same s key e None there = refl
source_same s key e (Some id) there =
    find_joined (is_instance id) s.instances (known_of s key e ∷ []) ∙ ap (λ (o : Option Instance). first_of_two o (find (is_instance id) (known_of s key e ∷ []))) (there id refl).1 ∙ sym (there id refl).1

abbrev pub next_by : State → Option Reply → Option Next
next_by s o = elim o [ None ↦ None | Some r ↦ next_in s r ]

reply_same : (s : State) (key : Bytes) (e : Entry) (o : Option Reply) → ((r : Reply) (id : ℕ) → o ≡ Some r → r.source ≡ Some id → (x : Instance) × (instance s id ≡ Some x)) → next_by (grown s key e) o ≡ next_by s o
reply_same s key e None there = refl
reply_same s key e (Some r) there = ap (λ (o : Option Instance). elim o as (λ c. Option Next) [ None ↦ None | Some x ↦ next_from x r ]) (source_same s key e r.source (λ id own. there r id refl own))

next_same : (s : State) (key : Bytes) (e : Entry) (c : Client) → IsMadeBefore s c → next_of (grown s key e) c ≡ next_of s c
next_same s key e c made = ap (λ (o : Option Next). elim c.is_closing as (λ b. Option Next) [ true ↦ None | false ↦ o ]) (reply_same s key e (reply_of c) made.source)

-- ---- cuts, by what is said next

abbrev pub part_by : State → Client → Option Next → Reply → Bytes
part_by s c next r = elim r.has_begun [ false ↦ [] | true ↦ r.head_left ++ (elim (is_passing r.decision) [ true ↦ passed_part c | false ↦ elim next [ None ↦ [] | Some n ↦ piece s n ] ]) ]

abbrev pub offer_by : State → Client → Option Next → Bytes
offer_by s c next = elim (is_empty c.interim_left) [ false ↦ c.interim_left | true ↦ elim (reply_of c) [ None ↦ [] | Some r ↦ part_by s c next r ] ]

abbrev pub says_by : State → Client → Option Next → Bool
says_by s c next = not (is_empty (offer_by s c next)) || (is_at_body c && is_some_with (is_next_held s) next)

abbrev pub behind_by : State → Option Next → Bool
behind_by s next = is_some_with (λ n. n.source.is_retired && not (is_provided s n)) next

abbrev pub cut_by : State → Client → Option Next → Option Cause
cut_by s c next =
    let dry = is_begun c && not (says_by s c next) in
    elim c.is_closing [
      | true ↦ None
      | false ↦ option_map (λ (cause : Bool × Cause). cause.1) (find (λ (cause : Bool × Cause). cause.0) (
          (s.is_stopped && is_begun c, Stop) ∷ (dry && is_short c, Short) ∷ (dry && not (is_trying c.course), Origin) ∷ (is_begun c && behind_by s next, Superseded) ∷ (is_idle s c, Idle) ∷ []
          ))
    ]

-- ---- decisions, by what is decided of its request

abbrev pub first_by : State → Client → Option Shared → Option Decision → Option Decision
first_by s c waits decided = elim waits [
  | Some w ↦ elim (is_patient s w) [ true ↦ None | false ↦ decided ]
  | None ↦ elim decided [ None ↦ None | Some d ↦ due_first s c d ]
]

abbrev pub again_by : Client → Reply → Option Instance → Option Decision → Option Decision
again_by c r source decided = elim r.has_begun [
  | true ↦ None
  | false ↦ give_up c.course (elim (is_followed_by r.decision && not (is_some_with (λ x. not x.is_retired) source)) [ true ↦ decided | false ↦ None ])
]

abbrev pub stage_by : State → Client → Stage → Option Decision
stage_by s c stage = elim stage [
  | Undecided ↦ first_by s c c.waits_on (decide s c)
  | Waiting ↦ give_up c.course (elim (is_told c.brought) [ true ↦ decide s c | false ↦ None ])
  | Passing ↦ give_up c.course None
  | Answering r ↦ again_by c r (source_by s r.source) (decide s c)
]

stage_same : (s : State) (key : Bytes) (e : Entry) (c : Client) (stage : Stage) → c.stage ≡ stage → ComesIn s key e → IsMadeBefore s c → stage_by (grown s key e) c stage ≡ stage_by s c stage
stage_same s key e c Undecided is comes made = ap (λ (d : Option Decision). first_by s c c.waits_on d) (decided_same s key e c comes made.joined)
stage_same s key e c Waiting is comes made = ap (λ (d : Option Decision). give_up c.course (elim (is_told c.brought) as (λ b. Option Decision) [ true ↦ d | false ↦ None ])) (decided_same s key e c comes made.joined)
stage_same s key e c Passing is comes made = refl
stage_same s key e c (Answering r) is comes made =
    ap₂ (λ (o : Option Instance) (d : Option Decision). again_by c r o d) (source_same s key e r.source (λ id own. made.source r id (answers c r is) own)) (decided_same s key e c comes made.joined)
  where
    answers : (c : Client) (r : Reply) → c.stage ≡ Answering r → reply_of c ≡ Some r
    answers c r is = ap (λ (t : Stage). elim t as (λ b. Option Reply) [ Undecided ↦ None | Waiting ↦ None | Passing ↦ None | Answering q ↦ Some q ]) is

-- ---- both

abbrev pub due_by : State → Client → Option Cause → Option Decision → Option Due
due_by s c cut decision = elim cut [
  | Some cause ↦ Some (CutOff c.number cause)
  | None ↦ elim (elim (c.is_closing || s.is_stopped) as (λ b. Option Decision) [ true ↦ None | false ↦ decision ]) [ Some d ↦ Some (Decide c.number c.index d) | None ↦ None ]
]

pub due_read : (s : State) (c : Client) → due_of s c ≡ due_by s c (cut_by s c (next_of s c)) (stage_by s c c.stage)
due_read s c = refl

grown_due : (s : State) (key : Bytes) (e : Entry) (c : Client) → ComesIn s key e → IsMadeBefore s c → due_of (grown s key e) c ≡ due_of s c
grown_due s key e c comes made =
    due_read (grown s key e) c
    ∙ ap₂ (λ (n : Option Next) (d : Option Decision). due_by s c (cut_by s c n) d) (next_same s key e c made) (stage_same s key e c c.stage refl comes made)
    ∙ sym (due_read s c)

open_cut : State → Client → Option Cause
open_cut s c = option_map (λ (cause : Bool × Cause). cause.1) (find (λ (cause : Bool × Cause). cause.0) (causes s c))

pub closed : (s : State) (c : Client) → c.is_closing ≡ true → due_of s c ≡ None
unfolding open_cut
closed s c is =
    ap (λ (b : Bool). elim (elim b as (λ x. Option Cause) [ true ↦ None | false ↦ open_cut s c ]) as (λ x. Option Due) [
      | Some cause ↦ Some (CutOff c.number cause)
      | None ↦ elim (elim (b || s.is_stopped) as (λ x. Option Decision) [ true ↦ None | false ↦ due_by_stage s c ]) as (λ x. Option Due) [ Some d ↦ Some (Decide c.number c.index d) | None ↦ None ]
    ]) is

-- ---- nothing is in memory of what is still to be made

none_ahead : (number : ℕ → ℕ) (m : Memory) (s : State) (index : ℕ) (cs : List Chunk) (ds : List Front) → ShowsTable number m s → AreAll (ShowsChunk number m) cs ds → find (is_chunk s.next_instance index) ds ≡ None
none_ahead number m s index [] [] table all = refl
none_ahead number m s index [] (d ∷ ds) table all = absurd all
none_ahead number m s index (c ∷ cs) [] table all = absurd all
none_ahead number m s index (c ∷ cs) (d ∷ ds) table all =
    ap (λ (b : Bool). cond (b && (d.index == index)) (Some d) (find (is_chunk s.next_instance index) ds)) (apart d.instance s.next_instance (below_next number m s c.owner d.instance table all.0.owner))
    ∙ none_ahead number m s index cs ds table all.1
  where
    apart : (a b : ℕ) → a < b → (a == b) ≡ false
    apart a b less = grind (arith, nat_tests, less)

empty_ahead : (number : ℕ → ℕ) (m : Memory) (s : State) → ShowsTable number m s → (index : ℕ) → filled s.next_instance index s.chunks ≡ 0
empty_ahead number m s table index = ap (λ (o : Option Front). length (elim o as (λ c. Bytes) [ None ↦ [] | Some d ↦ d.bytes ])) (none_ahead number m s index m.chunks s.chunks table table.chunks)

by_kept : (number : ℕ → ℕ) (m : Memory) (s : State) (key : Bytes) (c : Client) (o : Option Instance) (kept : Option Entry) → ShowsTable number m s → row s key ≡ o → row_on_disk s key ≡ kept → IsMadeBefore s c
    → due_of (with_entry key (elim o as (λ x. Option Entry) [ Some x ↦ None | None ↦ kept ]) s) c ≡ due_of s c
unfolding add_row
by_kept number m s key c (Some x) kept table alone is made = refl
by_kept number m s key c None None table alone is made = refl
by_kept number m s key c None (Some e) table alone is made = grown_due s key e c (record { alone = alone; kept = is; empty = empty_ahead number m s table }) made

pub dues_stay : DuesStayAsTheyWere
dues_stay number m s table key c made = by c.is_closing refl
  where
    by : (b : Bool) → c.is_closing ≡ b → due_of (with_row_of key s) c ≡ due_of s c
    by true is = closed (with_row_of key s) c is ∙ sym (closed s c is)
    by false is = by_kept number m s key c (row s key) (row_on_disk s key) table refl refl (made is)
