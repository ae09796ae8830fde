-- Rows that left are noted, and chunks go down to the low mark.
use Rattle.std.proofs.Common.{◌≡◌, refl, sym, subst, ap, ◌∙◌, ℕ, Bool, true, false, not, is_some, List, [], ◌∷◌, ◌++◌, drop, length, Option, Some, None, arith}
use Rattle.std.proofs.lemmas.List.{append-nil}
use Rattle.std.proofs.lemmas.List.Folds.{list_all-append}
use Rattle.std.specs.List.{cons_option, list_all}
use Rattle.std.specs.Prelude.{option_map}
use Rattle.pp_cache.specs.Memory.{Memory}
use Rattle.pp_cache_law.proofs.Faces.{followed-faced, table-faced}
use Rattle.pp_cache_law.specs.Pairs.{AreBoth}
use Rattle.pp_cache_law.specs.Reads.{ArePinned}
use Rattle.pp_cache_law.proofs.PairLemmas.{lengths_same}
use Rattle.pp_cache_law.specs.Tables.{ShowsCache, ShowsChunk}
use Rattle.pp_flow_law.proofs.Framed.{frames as flow_frames}
use Rattle.pp_flow_law.specs.Tables.{Leaving, ShowsFlow}
use Rattle.pp_holes.specs.Places.{Chunk}
use Rattle.pp_law.specs.Chunks.{drop_chunk, floor, victim}
use Rattle.pp_law.specs.Connections.{exchange}
use Rattle.pp_law.specs.Leaving.{is_first}
use Rattle.pp_law.specs.Lists.{Bytes}
use Rattle.pp_law.specs.Phases.{due_victim, is_done_with}
use Rattle.pp_law.specs.State.{State, Phase, Evicting}
use Rattle.pp_law.specs.Table.{pins as pins_by}
use Rattle.pp_objects.specs.Instances.{Instance, in_slot}
use Rattle.pp_obeys.specs.Failures.{fails}
use Rattle.pp_obeys.specs.Moves.{AreCalm, Leads, MovesAll}
use Rattle.pp_obeys.proofs.Calls.{moves_to}
use Rattle.pp_obeys.proofs.Silent.{both_hold}
use Rattle.pp_obeys.proofs.TurnHappenings.{goes_forgotten_for_another}
use Rattle.pp_peers.specs.declared.peers.Peer.{Peer}
use Rattle.pp_peers_law.specs.Peers.{ShowConns}
use Rattle.pp_seats_law.specs.Clients.{AreShown}
use Rattle.pp_states_law.proofs.Asked.{all_as, frames, itself}
use Rattle.pp_states_law.proofs.Framed.{states}
use Rattle.pp_states_law.specs.Asks.{IsAskedAs}
use Rattle.pp_steps.proofs.EvictingLemmas.{still_there}
use Rattle.pp_state.specs.Bodies.{IsButForCells}
use Rattle.pp_state.specs.Ends.{AreInOrder, Parts, numbers_of, parts}
use Rattle.pp_steps.specs.Evicting.{all_victims, evicted_note, evicted_notes, forgotten_notes, leaving_chunks, leaving_notes, left_memory, without_all}
use Rattle.pp_state.specs.Pins.{pins}
use Rattle.pp_state.specs.declared.state.State.{State as Steps}
use Rattle.pp_states_law.proofs.Told.{are_told_on}
use Rattle.pp_states_law.specs.Steps.{ShowsSteps, whole}
use Rattle.pp_states_law.specs.Told.{AreTold}
use Rattle.pp_text.specs.Bytes.{is_empty}
use Rattle.pp_world.specs.Log.{Log}
use Rattle.pp_world.specs.declared.happening.Happening.{Happening}
use Rattle.pp_world.specs.declared.happening.Happening.TheVariants.{Noted}
use Rattle.pp_world.specs.declared.note.Remark.TheVariants.{Evicted}
use Rattle.pp_leaves_law.specs.Leaves.{AreLeaving, HaveLeft, LeavingsAreCalm, LeavingsLead, evicted_on, left_by}
use Rattle.pp_leaves_law.proofs.Evicted.{all_go, evicted_none, no_victim, none_due, same_text}

-- what holds behind them holds where they lead
holds_there : (Q : State → Type 0) (hs : Log) (s t : State) → Leads hs s t → MovesAll Q hs s → Q t
holds_there Q [] s t is holds = subst Q is holds
holds_there Q (h ∷ hs) s t leads moves = holds_there Q hs _ t leads.holds moves.holds

-- ---- in none of these notes the outside failed

calm_both : (one two : Log) → AreCalm one → AreCalm two → AreCalm (one ++ two)
calm_both one two a b = list_all-append (λ h. not (fails h)) one two ∙ both_hold (list_all (λ h. not (fails h)) one) (list_all (λ h. not (fails h)) two) a b

calm_keys : (keys : List Bytes) → AreCalm (forgotten_notes keys)
calm_keys [] = refl
calm_keys (key ∷ keys) = calm_keys keys

calm_next : (is : List Instance) (at : ℕ × ℕ) (o : Option Instance) (hs : Log) → in_slot at.0 is ≡ o → AreCalm hs → AreCalm (cons_option (evicted_note is at) hs)
calm_next is at None hs here calm = subst (λ (o : Option Happening). AreCalm (cons_option o hs)) (sym (ap (option_map (λ (i : Instance). Noted (Evicted i.key i.version.tag i.version.length at.1))) here)) calm
calm_next is at (Some i) hs here calm = subst (λ (o : Option Happening). AreCalm (cons_option o hs)) (sym (ap (option_map (λ (i : Instance). Noted (Evicted i.key i.version.tag i.version.length at.1))) here)) calm

calm_chunks : (is : List Instance) (places : List (ℕ × ℕ)) → AreCalm (evicted_notes is places)
calm_chunks is [] = refl
calm_chunks is (at ∷ places) = calm_next is at (in_slot at.0 is) (evicted_notes is places) refl (calm_chunks is places)

pub calm : LeavingsAreCalm
calm st =
    calm_both (forgotten_notes st.forgotten ++ forgotten_notes st.refused) (evicted_notes st.cache.instances (leaving_chunks st)) (calm_both (forgotten_notes st.forgotten) (forgotten_notes st.refused) (calm_keys st.forgotten) (calm_keys st.refused))
    (calm_chunks st.cache.instances (leaving_chunks st))

-- ---- what chunks are no part of

as_before : (s : State) (n : ℕ) → AreBoth IsAskedAs (exchange s n) (exchange s n)
as_before s n = itself (exchange s n)

pub record Others (number : ℕ → ℕ) (name : Bytes) (l : Leaving) (peers : List Peer) (st : Steps) (s : State) : Type 0 where
  pub clients : AreShown number name [] st.seats.items s.clients
  pub exchanges : ShowsFlow number l st.flow s
  pub conns : ShowConns s peers s.conns
  pub order : AreInOrder (numbers_of st.seats.items)
  pub told : AreTold number st.cache s.next_instance st.flow

module _ (number : ℕ → ℕ) (name : Bytes) (l : Leaving) (peers : List Peer) (st : Steps) where
  others_stay : (id i : ℕ) (s : State) → Others number name l peers st s → Others number name l peers st (drop_chunk id i s)
  unfolding drop_chunk
  others_stay id i s others = record {
    clients = others.clients;
    exchanges = flow_frames number l st.flow s others.exchanges l (drop_chunk id i s) (record { exchanges = refl; next = refl; lines = λ n. refl });
    conns = frames s (drop_chunk id i s) peers s.conns (all_as s (drop_chunk id i s) (as_before s) s.conns) others.conns;
    order = others.order;
    told = others.told;
  }

  -- ---- rows that are still to be noted

  record Noting (keys : List Bytes) (s : State) : Type 0 where
    none : s.made_room_for ≡ None
    at : s.phase ≡ Evicting
    shows : ShowsSteps number name l peers (parts st) s
    forgotten : s.forgotten ≡ keys
    evicting : st.is_evicting ≡ s.is_evicting
    floor_is : st.floor ≡ floor s
    pinned : ArePinned number st.cache (pins st) (pins_by s)

  noted_next : (key : Bytes) (keys : List Bytes) (s : State) → Noting (key ∷ keys) s → Noting keys (record s { forgotten = drop 1 s.forgotten })
  noted_next key keys s noting = record {
    none = noting.none;
    at = noting.at;
    shows = record {
      shows =
          states number name [] l (whole (parts st) peers) s noting.shows.shows (record s { forgotten = drop 1 s.forgotten })
          (record { clients = refl; conns = refl; exchanges = refl; next_exchange = refl; instances = refl; next_instance = refl; chunks = refl; kept = λ x. refl });
      order = noting.shows.order;
      told = noting.shows.told;
      refused = noting.shows.refused;
    };
    forgotten = ap (λ (ks : List Bytes). drop 1 ks) noting.forgotten;
    evicting = noting.evicting;
    floor_is = noting.floor_is;
    pinned = noting.pinned;
  }

  all_noted : (Q : State → Type 0) (hs : Log) (keys : List Bytes) (s : State) → Noting keys s → (Noting [] (record s { forgotten = [] }) → MovesAll Q hs (record s { forgotten = [] })) → MovesAll Q (forgotten_notes keys ++ hs) s
  all_noted Q hs [] s noting end =
      let is : s ≡ record s { forgotten = [] } = ap (λ (keys : List Bytes). record s { forgotten = keys }) noting.forgotten in
      subst (λ (t : State). MovesAll Q hs t) (sym is) (end (subst (λ (t : State). Noting [] t) is noting))
  all_noted Q hs (key ∷ keys) s noting end =
      let first : is_first key s.forgotten ≡ true = ap (is_first key) noting.forgotten ∙ same_text key key refl in
      moves_to refl (goes_forgotten_for_another s key noting.none noting.at first) (all_noted Q hs keys (record s { forgotten = drop 1 s.forgotten }) (noted_next key keys s noting) end)

  -- ---- behind all of them

  module _ (after : Steps) (is : IsButForCells (left_memory st) after) where
    abbrev left : List Chunk
    left = (left_memory st).cache.chunks

    parts_are : parts after ≡ record { seats = st.seats.items; flow = st.flow; cache = after.cache; refused = []; is_astray = st.is_astray }
    parts_are = ap (λ (x : Steps). parts (record x { cache = after.cache })) is.rest

    memory_is : after.cache ≡ record st.cache { chunks = left; instances = after.cache.instances }
    memory_is = ap (λ (m : Memory). record m { instances = after.cache.instances }) is.cache.rest

    cache_faced : (s : State) → ShowsCache number (record st.cache { chunks = left }) s → ShowsCache number after.cache s
    cache_faced s shows =
        subst (λ (m : Memory). ShowsCache number m s) (sym memory_is)
        (record {
          table = table-faced number (record st.cache { chunks = left }) s after.cache.instances is.cache.faces shows.table;
          followed = followed-faced after.cache.instances st.cache.instances is.cache.faces shows.followed;
          ahead = shows.ahead;
        })

    steps_left : (s : State) → ShowsCache number (record st.cache { chunks = left }) s → Others number name l peers st s → ShowsSteps number name l peers (parts after) s
    steps_left s shows others =
        subst (λ (p : Parts). ShowsSteps number name l peers p s) (sym parts_are)
        (record {
          shows = record { clients = others.clients; exchanges = others.exchanges; table = cache_faced s shows; conns = others.conns };
          order = others.order;
          told =
              are_told_on number st.cache after.cache s.next_instance s.next_instance
              (record {
                lives = let same : after.cache.lives ≡ st.cache.lives = ap (λ (m : Memory). m.lives) memory_is in omega (arith, same);
                numbers = omega arith;
                there = λ id there. still_there id st.cache.instances after.cache.instances (sym is.cache.faces) there;
              })
              st.flow others.told;
          refused = refl;
        })

    have_left : (s : State) → s.made_room_for ≡ None → s.phase ≡ Evicting → is_empty s.forgotten ≡ true → due_victim s ≡ None → ShowsCache number (record st.cache { chunks = left }) s → Others number name l peers st s
        → HaveLeft number name l peers after s
    have_left s none at nobody due shows others = record {
      none = none;
      at = at;
      shows = steps_left s shows others;
      done =
          ap (λ (p : Phase). is_done_with p s) at
          ∙ both_hold (is_empty s.forgotten) _ nobody (ap (λ (o : Option (ℕ × ℕ)). not (is_some o)) due);
    }

    others_of : (s : State) → Noting [] s → Others number name l peers st s
    others_of s noting = record { clients = noting.shows.shows.clients; exchanges = noting.shows.shows.exchanges; conns = noting.shows.shows.conns; order = noting.shows.order; told = noting.shows.told }

    chunks_by : (b : Bool) → st.is_evicting ≡ b → leaving_chunks st ≡ (elim b as (λ c. List (ℕ × ℕ)) [ true ↦ all_victims (pins st) st.floor st.cache.chunks | false ↦ [] ])
    chunks_by b is_so = ap (λ (c : Bool). elim c as (λ d. List (ℕ × ℕ)) [ true ↦ all_victims (pins st) st.floor st.cache.chunks | false ↦ [] ]) is_so

    -- the law has as many chunks
    as_many : (s : State) → Noting [] s → length st.cache.chunks ≡ length s.chunks
    as_many s noting = lengths_same (ShowsChunk number st.cache) st.cache.chunks s.chunks noting.shows.shows.table.table.chunks

    abbrev evicted_by : State → State
    evicted_by s = evicted_on (length st.cache.chunks) s

    all_evicted : (Q : State → Type 0) (b : Bool) → st.is_evicting ≡ b → (s : State) → Noting [] s → (HaveLeft number name l peers after (evicted_by s) → Q (evicted_by s)) → MovesAll Q (evicted_notes st.cache.instances (leaving_chunks st)) s
    all_evicted Q true is_so s noting end =
        let chunks : leaving_chunks st ≡ all_victims (pins st) st.floor st.cache.chunks = chunks_by true is_so in
        let final : left ≡ without_all (all_victims (pins st) st.floor st.cache.chunks) st.cache.chunks = ap (λ (places : List (ℕ × ℕ)). without_all places st.cache.chunks) chunks in
        subst (λ (places : List (ℕ × ℕ)). MovesAll Q (evicted_notes st.cache.instances places) s) (sym chunks)
        (all_go number st.cache (pins st) st.floor (Others number name l peers st) others_stay Q (length st.cache.chunks) st.cache.chunks s
        (record {
          none = noting.none;
          at = noting.at;
          nobody = ap (λ (ks : List Bytes). is_empty ks) noting.forgotten;
          evicting = sym noting.evicting ∙ is_so;
          low_is = sym noting.floor_is;
          pinned = noting.pinned;
          cache = noting.shows.shows.table;
          rest = others_of s noting;
        })
        (λ going.
        end
        (have_left (evicted_by s) going.none going.at going.nobody
        (none_due number st.cache (pins st) st.floor (Others number name l peers st) others_stay (without_all (all_victims (pins st) st.floor st.cache.chunks) st.cache.chunks) (evicted_by s) going
        (no_victim (length st.cache.chunks) (pins st) st.floor st.cache.chunks (omega arith)))
        (subst (λ (cs : List Chunk). ShowsCache number (record st.cache { chunks = cs }) (evicted_by s)) (sym final) going.cache) going.rest)))
    all_evicted Q false is_so s noting end =
        let chunks : leaving_chunks st ≡ [] = chunks_by false is_so in
        let final : left ≡ st.cache.chunks = ap (λ (places : List (ℕ × ℕ)). without_all places st.cache.chunks) chunks in
        let due : due_victim s ≡ None = ap (λ (b : Bool). elim b as (λ c. Option (ℕ × ℕ)) [ true ↦ victim (pins_by s) s | false ↦ None ]) (sym noting.evicting ∙ is_so) in
        let stays : evicted_by s ≡ s = evicted_none (length st.cache.chunks) s due in
        let here : HaveLeft number name l peers after s = have_left s noting.none noting.at (ap (λ (ks : List Bytes). is_empty ks) noting.forgotten) due
        (subst (λ (cs : List Chunk). ShowsCache number (record st.cache { chunks = cs }) s) (sym final) noting.shows.shows.table) (others_of s noting) in
        subst (λ (places : List (ℕ × ℕ)). MovesAll Q (evicted_notes st.cache.instances places) s) (sym chunks)
        (subst Q stays (end (subst (λ (t : State). HaveLeft number name l peers after t) (sym stays) here)))

    -- memory was refused for no row
    notes_are : st.refused ≡ [] → leaving_notes st ≡ forgotten_notes st.forgotten ++ evicted_notes st.cache.instances (leaving_chunks st)
    notes_are none =
        ap (λ (keys : List Bytes). (forgotten_notes st.forgotten ++ forgotten_notes keys) ++ evicted_notes st.cache.instances (leaving_chunks st)) none
        ∙ ap (λ (hs : Log). hs ++ evicted_notes st.cache.instances (leaving_chunks st)) (append-nil (forgotten_notes st.forgotten))

    all_leave : (Q : State → Type 0) (s : State) → AreLeaving number name l peers st s → (HaveLeft number name l peers after (left_by s) → Q (left_by s)) → MovesAll Q (leaving_notes st) s
    all_leave Q s leaving end =
        subst (λ (hs : Log). MovesAll Q hs s) (sym (notes_are leaving.shows.refused))
        (all_noted Q (evicted_notes st.cache.instances (leaving_chunks st)) st.forgotten s
        (record { none = leaving.none; at = leaving.at; shows = leaving.shows; forgotten = sym leaving.forgotten; evicting = leaving.evicting; floor_is = leaving.floor_is; pinned = leaving.pinned })
        (λ noting.
        let many : evicted_by (record s { forgotten = [] }) ≡ left_by s = ap (λ (n : ℕ). evicted_on n (record s { forgotten = [] })) (as_many (record s { forgotten = [] }) noting) in
        all_evicted Q st.is_evicting refl (record s { forgotten = [] }) noting (λ left_all. subst Q (sym many) (end (subst (λ (t : State). HaveLeft number name l peers after t) many left_all)))))

    pub all_lead : (s : State) → AreLeaving number name l peers st s → Leads (leaving_notes st) s (left_by s) × HaveLeft number name l peers after (left_by s)
    all_lead s leaving =
        let lead : Leads (leaving_notes st) s (left_by s) = all_leave (λ t. t ≡ left_by s) s leaving (λ left_all. refl) in
        (lead, holds_there (HaveLeft number name l peers after) (leaving_notes st) s (left_by s) lead (all_leave (HaveLeft number name l peers after) s leaving (λ left_all. left_all)))

pub leavings : LeavingsLead
leavings number name l peers st after s is leaving = all_lead number name l peers st after is s leaving
