-- A life that does not come to serve stays in its opening, and a line is printed there.
use Rattle.std.proofs.Common.{◌≡◌, refl, sym, subst, ap, ◌∙◌, inl, inr, ℕ, zero, suc, Bool, true, false, List, [], ◌∷◌, ◌++◌, is_some, map, take, Option, Some, None}
use Rattle.std.proofs.lemmas.List.{append-nil}
use Rattle.std.specs.List.{list_any}
use Rattle.std.specs.Prelude.{bytes_eq}
use Rattle.pp_conf.specs.Conf.{Settings}
use Rattle.pp_conf.specs.Words.{file_of, reading_of}
use Rattle.pp_joints_law.proofs.OpenedFolder.{all_taken, all_there, fresh_there, names_move, none_left_open, port_is, recovered, there}
use Rattle.pp_joints_law.proofs.OpenedFresh.{names_rise}
use Rattle.pp_joints_law.proofs.OpenedLife.{comes_where, woke_obeys}
use Rattle.pp_joints_law.proofs.OpenedNames.{all_left}
use Rattle.pp_joints_law.proofs.OpenedStands.{Stands}
use Rattle.pp_joints_law.proofs.OpenedWords.{awake, base, is_named_so, names_so}
use Rattle.pp_joints_law.specs.Opened.{DoorsMayStayShut, FoldersMayBreakOff, LivesMayBreakOff, StandsConfigured, StillOpens, WordsMayBreakOff, asked_for}
use Rattle.pp_law.specs.Lists.{Bytes}
use Rattle.pp_law.specs.Opening.{are_texts, begun, configured, is_same_phase, names_file, opened_to, settings_in, stuck, with_settings, woken}
use Rattle.pp_law.specs.Repairs.{has_stray_gates}
use Rattle.pp_law.specs.State.{State, Phase, IsWoken, IsConfigured, IsRooted, IsListed, IsListening, IsStuck}
use Rattle.pp_laws.specs.Runs.{IsIn}
use Rattle.pp_obeys.proofs.Calls.{moves_to}
use Rattle.pp_obeys.proofs.Happenings.{goes_configured, goes_listed, goes_listens, goes_printed, goes_rooted}
use Rattle.pp_obeys.proofs.Moving.{moves_append, moves_map}
use Rattle.pp_obeys.specs.Moves.{Goes, MovesAll}
use Rattle.pp_recover.proofs.NameLemmas.{Distinct, NotIn, distinct}
use Rattle.pp_recover.specs.Image.{HasFewNames}
use Rattle.pp_recover.specs.Opening.{IsFresh, Tended, TendsEach, name_in}
use Rattle.pp_recover.specs.declared.faults.RecoverFault.TheVariants.{DiskFault, OutOfMemory}
use Rattle.pp_shelf_law.proofs.Shelves.{bytes_same}
use Rattle.pp_shelf_law.specs.Folder.{disk_of}
use Rattle.pp_world.specs.Disk.{is_rising, names_in}
use Rattle.pp_world.specs.Files.{Files}
use Rattle.pp_world.specs.Log.{Log}
use Rattle.pp_world.specs.declared.happening.Happening.TheVariants.{Configured, Listed, Listens, Printed, Rooted, Woke}

-- ---- words

set_opens : (o : Option Settings) (s : State) → s.made_room_for ≡ None → StillOpens (with_settings o s)
unfolding with_settings
set_opens None s none = record { opens = refl; none = none }
set_opens (Some c) s none = record { opens = refl; none = none }

configured_opens : (text : Option Bytes) (s : State) → s.made_room_for ≡ None → StillOpens (configured text s)
unfolding configured stuck
configured_opens None s none = record { opens = refl; none = none }
configured_opens (Some text) s none = set_opens (settings_in (reading_of s.term.words (Some text))) s none

begun_opens : (s : State) → s.made_room_for ≡ None → StillOpens (begun s)
unfolding begun
begun_opens s none = by (are_texts s.term) (names_file s.term)
  where
    by : (texts names : Bool) → StillOpens (elim texts as (λ c. State) [
      | false ↦ with_settings None s
      | true ↦ elim names as (λ c. State) [ true ↦ record s { phase = IsWoken } | false ↦ with_settings (settings_in (reading_of s.term.words None)) s ]
    ])
    by false names = set_opens None s none
    by true true = record { opens = refl; none = none }
    by true false = set_opens (settings_in (reading_of s.term.words None)) s none

woken_opens : (files : Files) (s : State) → StillOpens (woken files s)
unfolding woken
woken_opens files s = begun_opens _ refl

pub words_break : WordsMayBreakOff
words_break words text files s texts reads same = by (file_of words) refl
  where
    by : (named : Option Bytes) → file_of words ≡ named → MovesAll StillOpens (asked_for named text) (woken files s)
    by None is = woken_opens files s
    by (Some file) is =
        let v : State = record (base words files s texts same) { phase = IsWoken } in
        let whole : woken files s ≡ v = awake words files s texts same true (names_so words files s texts same (reads (ap (λ (o : Option Bytes). is_some o) is)) (Some file) is) in
        let goes : Goes v (Configured file text) (configured text v) = goes_configured v file text refl refl (is_named_so words files s texts same file is) in
        subst (MovesAll StillOpens (Configured file text ∷ [])) (sym whole) (moves_to refl goes (configured_opens text v refl))

-- ---- the folder

not_taken : (name : Bytes) (ns : List Bytes) (k : ℕ) → NotIn name ns → NotIn name (take k ns)
not_taken name ns zero all = tt
not_taken name [] (suc k) all = tt
not_taken name (n ∷ ns) (suc k) all = (all.0, not_taken name ns k all.1)

distinct_taken : (ns : List Bytes) (k : ℕ) → Distinct ns → Distinct (take k ns)
distinct_taken ns zero all = tt
distinct_taken [] (suc k) all = tt
distinct_taken (n ∷ ns) (suc k) all = (not_taken n ns k all.0, distinct_taken ns k all.1)

of_taken : (name : Bytes) (ns : List Bytes) (k : ℕ) → IsIn name (take k ns) → IsIn name ns
of_taken name ns zero i = absurd i
of_taken name [] (suc k) i = absurd i
of_taken name (n ∷ ns) (suc k) (inl is) = inl is
of_taken name (n ∷ ns) (suc k) (inr i) = inr (of_taken name ns k i)

opens_at : (p : Phase) (s : State) → list_any (λ q. is_same_phase q p) (IsWoken ∷ IsConfigured ∷ IsRooted ∷ IsListed ∷ IsListening ∷ IsStuck ∷ []) ≡ true → s.phase ≡ p → s.made_room_for ≡ None → StillOpens s
opens_at p s is at none = record { opens = ap (λ (q : Phase). list_any (λ r. is_same_phase r q) (IsWoken ∷ IsConfigured ∷ IsRooted ∷ IsListed ∷ IsListening ∷ IsStuck ∷ [])) at ∙ is; none = none }

module _ (c : Settings) (files : Files) (given : ℕ) (log : Log) (s : State) (rising : is_rising (map (λ file. file.0) files) ≡ true) (few : HasFewNames files) (fresh : IsFresh files log) (disk : disk_of log ≡ Woke files ∷ []) (stands : StandsConfigured c files given s) where
  root_is : bytes_eq c.root s.settings.root ≡ true
  root_is = ap (λ (d : Settings). bytes_eq c.root d.root) stands.opens.settings ∙ bytes_same c.root

  rooted_moves : (hs : Log) → MovesAll StillOpens hs (record s { phase = IsRooted }) → MovesAll StillOpens (Rooted c.root ∷ hs) s
  unfolding opened_to
  rooted_moves hs moves =
      let goes : Goes s (Rooted c.root) (opened_to IsRooted true s) = goes_rooted s c.root stands.opens.none stands.opens.at root_is in
      moves_to refl goes moves

  unlisted : MovesAll StillOpens (Rooted c.root ∷ Listed false ∷ []) s
  unfolding opened_to stuck
  unlisted =
      let goes : Goes (record s { phase = IsRooted }) (Listed false) (opened_to IsListed false (record s { phase = IsRooted })) = goes_listed (record s { phase = IsRooted }) false stands.opens.none refl in
      rooted_moves (Listed false ∷ []) (moves_to refl goes (record { opens = refl; none = stands.opens.none }))

  still_so : (log_there : Log) (t : State) → Stands c files given log_there t → StillOpens t
  still_so log_there t st = opens_at IsListed t refl st.opens.at st.opens.none

  -- behind some of its names
  some_names : (rest : Log) (count : ℕ) (ts : List Tended) → map name_in ts ≡ take count (names_in files) → TendsEach files ts rest → MovesAll StillOpens (Rooted c.root ∷ Listed true ∷ rest) s
  some_names rest count ts names each =
      let within : (n : Bytes) → IsIn n (map name_in ts) → IsIn n (names_in files) = λ n i. of_taken n (names_in files) count (subst (λ (ns : List Bytes). IsIn n ns) names i) in
      let differ : Distinct (map name_in ts) = subst Distinct (sym names) (distinct_taken (names_in files) count (distinct (names_in files) (names_rise files rising few))) in
      subst (λ (k : Log). MovesAll StillOpens (Rooted c.root ∷ Listed true ∷ k) s) (append-nil rest)
      (names_move c files given log s rising few fresh disk stands StillOpens rest [] ts (all_left files (there c files given log s rising few fresh disk stands) (fresh_there c files given log s rising few fresh disk stands) ts within differ) each
      (λ t st. still_so (there c files given log s rising few fresh disk stands ++ rest) t st))

  -- all of them, and it may not listen
  shut_out : (rest : Log) (ts : List Tended) → map name_in ts ≡ names_in files → TendsEach files ts rest → MovesAll StillOpens (Rooted c.root ∷ Listed true ∷ (rest ++ Listens c.port false ∷ [])) s
  unfolding opened_to stuck
  shut_out rest ts names each =
      names_move c files given log s rising few fresh disk stands StillOpens rest (Listens c.port false ∷ []) ts (all_there c files given log s rising few fresh disk stands ts names) each
      (λ t st. shut_at (there c files given log s rising few fresh disk stands ++ rest) t st (none_left_open c files given log s rising few fresh disk stands rest ts names each t st))
    where
      shut_at : (log_there : Log) (t : State) → Stands c files given log_there t → list_any (has_stray_gates t) t.entries ≡ false → MovesAll StillOpens (Listens c.port false ∷ []) t
      shut_at log_there t st clean =
          let goes : Goes t (Listens c.port false) (opened_to IsListening false t) = goes_listens t c.port false st.opens.none st.opens.at (port_is c files given log_there t st) (recovered c files given log_there t clean st) in
          moves_to refl goes (record { opens = refl; none = st.opens.none })

pub folders_break : FoldersMayBreakOff
folders_break c files DiskFault given log hs s rising few fresh disk (rest, is, unlisted_is) stands =
    subst (λ (k : Log). MovesAll StillOpens k s) (sym (is ∙ ap (λ (k : Log). Rooted c.root ∷ k) unlisted_is)) (unlisted c files given log s rising few fresh disk stands)
folders_break c files OutOfMemory given log hs s rising few fresh disk (rest, is, inl none) stands =
    subst (λ (k : Log). MovesAll StillOpens k s) (sym (is ∙ ap (λ (k : Log). Rooted c.root ∷ k) none)) (rooted_moves c files given log s rising few fresh disk stands [] (record { opens = refl; none = stands.opens.none }))
folders_break c files OutOfMemory given log hs s rising few fresh disk (rest, is, inr (front, first, (count, (ts, names, each)))) stands =
    subst (λ (k : Log). MovesAll StillOpens k s) (sym (is ∙ ap (λ (k : Log). Rooted c.root ∷ k) first)) (some_names c files given log s rising few fresh disk stands front count ts names each)

pub doors_stay : DoorsMayStayShut
doors_stay c files shelf given log hs s rising few fresh disk (front, is, ((rest, first, (ts, names, each)), shelf_is)) stands =
    subst (λ (k : Log). MovesAll StillOpens (k ++ Listens c.port false ∷ []) s) (sym (is ∙ ap (λ (k : Log). Rooted c.root ∷ k) first)) (shut_out c files given log s rising few fresh disk stands rest ts (all_taken files ts names) each)

-- ---- its line

prints : (line : Bytes) (s : State) → StillOpens s → MovesAll StillOpens (Printed line ∷ []) s
prints line s still = let goes : Goes s (Printed line) s = goes_printed s line still.none still.opens in moves_to refl goes still

pub lives_break : LivesMayBreakOff
lives_break terms before s files added line obeys may moves affords =
    comes_where StillOpens terms (before ++ Woke files ∷ []) (added ++ Printed line ∷ []) (woken files s) (woke_obeys terms before s files obeys may) affords
    (moves_append StillOpens added (Printed line ∷ []) (woken files s) (moves_map StillOpens (λ t. MovesAll StillOpens (Printed line ∷ []) t) (λ t still. prints line t still) added (woken files s) moves))
