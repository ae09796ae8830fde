-- One step more of what is drawn and put together step by step.
use Rattle.std.proofs.Common.{◌≡◌, ℕ, ◌+◌, ◌*◌, ◌%◌, ◌^◌, List, [], ◌∷◌, ◌++◌, slice_index, add-one, ap, append_assoc, refl, sym}
use Rattle.std.proofs.Math.Nat.{mod-add-mod}
use Rattle.std.proofs.lemmas.Grind.{common_steps}
use Rattle.pp_memworld.specs.declared.script.Cue.{Cue}
use Rattle.pp_memworld.specs.declared.script.Cue.TheVariants.{Connect, Say}
use Rattle.pp_demo.specs.Generator.{next_state, state_behind, value_in}
use Rattle.pp_demo.specs.Pages.{byte_at, bytes_up_to, last_offsets, page_of, pages_up_to}
use Rattle.pp_demo.specs.Asking.{behind_client, behind_clients, cues_of_client, cues_of_clients, request_of, request_text}
use Rattle.pp_demo.specs.Script.{begin_of}

pub next_by : (state : ℕ) → ((state * 6364136223846793005) % 2 ^ 64 + 1442695040888963407) % 2 ^ 64 ≡ next_state state
unfolding next_state
next_by state = mod-add-mod (state * 6364136223846793005) (2 ^ 64) 1442695040888963407

pub state_behind-none : (state : ℕ) → state_behind 0 state ≡ state
unfolding state_behind
state_behind-none state = refl

pub state_behind-one : (state : ℕ) → state_behind 1 state ≡ next_state state
unfolding state_behind
state_behind-one state = refl

pub state_behind-two : (n state : ℕ) → n ≡ 2 → state_behind n state ≡ next_state (next_state state)
unfolding state_behind
state_behind-two n state two = ap (λ (m : ℕ). state_behind m state) two

pub state_behind-more : (n state : ℕ) → state_behind (n + 1) state ≡ next_state (state_behind n state)
unfolding state_behind
state_behind-more n state = rw add-one refl

pub last_offsets-none : (state : ℕ) → last_offsets 0 state ≡ []
unfolding last_offsets
last_offsets-none state = refl

pub last_offsets-more : (n state : ℕ) → last_offsets (n + 1) state ≡ last_offsets n state ++ value_in (next_state (state_behind n state)) % 100000 ∷ []
unfolding last_offsets state_behind
last_offsets-more n state = rw add-one refl

pub pages_up_to-none : (last : List ℕ) → pages_up_to 0 last ≡ []
unfolding pages_up_to
pages_up_to-none last = refl

pub pages_up_to-more : (n : ℕ) (last : List ℕ) → pages_up_to (n + 1) last ≡ pages_up_to n last ++ page_of n (slice_index last n) ∷ []
unfolding pages_up_to
pages_up_to-more n last = rw add-one refl

pub bytes_up_to-none : (number : ℕ) → bytes_up_to number 0 ≡ []
unfolding bytes_up_to
bytes_up_to-none number = refl

pub bytes_up_to-more : (number n : ℕ) → bytes_up_to number (n + 1) ≡ bytes_up_to number n ++ byte_at number n ∷ []
unfolding bytes_up_to
bytes_up_to-more number n = rw add-one refl

pub behind_clients-none : (state : ℕ) → behind_clients 0 state ≡ state
unfolding behind_clients
behind_clients-none state = refl

pub behind_clients-more : (n state : ℕ) → behind_clients (n + 1) state ≡ behind_client (behind_clients n state)
unfolding behind_clients
behind_clients-more n state = rw add-one refl

pub cues_of_clients-none : (last : List ℕ) (state : ℕ) → cues_of_clients 0 last state ≡ []
unfolding cues_of_clients
cues_of_clients-none last state = refl

pub cues_of_clients-more : (n : ℕ) (last : List ℕ) (state : ℕ) → cues_of_clients (n + 1) last state ≡ cues_of_clients n last state ++ cues_of_client last (behind_clients n state)
unfolding cues_of_clients
cues_of_clients-more n last state = rw add-one refl

pub client_put : (before : List Cue) (last : List ℕ) (state : ℕ) → before ++ cues_of_client last state ≡ (before ++ Connect ∷ []) ++ Say 0 (request_text (request_of last state)) ∷ []
unfolding cues_of_client
client_put before last state = sym (append_assoc before (Connect ∷ []) (Say 0 (request_text (request_of last state)) ∷ []))

pub begin_of-none : (state : ℕ) → begin_of 0 state ≡ state
unfolding begin_of
begin_of-none state = refl

pub begin_of-more : (life state : ℕ) → begin_of (life + 1) state ≡ next_state (next_state (behind_clients 40 (begin_of life state)))
unfolding begin_of
begin_of-more life state = rw add-one refl

pub ruleset values = (state_behind-none, state_behind-one, state_behind-two, state_behind-more)

pub ruleset lengths = (common_steps, state_behind-none, state_behind-more, last_offsets-none, last_offsets-more)

pub ruleset bytes = (bytes_up_to-none, bytes_up_to-more)

pub ruleset pages = (pages_up_to-none, pages_up_to-more)

pub ruleset clients = (behind_clients-none, behind_clients-more)

pub ruleset lives = (begin_of-none, begin_of-more)
