-- A folder keeps what the log says as the log goes on.
use Rattle.std.proofs.Common.{◌≡◌, ◌∙◌, ap, sym, refl, subst, ℕ, Bool, true, false, List, [], ◌∷◌, ◌++◌, map, filter, take, Option, Some, None}
use Rattle.std.specs.Prelude.{◌&&◌, ◌||◌, bytes_eq, is_some}
use Rattle.std.specs.List.{list_all}
use Rattle.std.proofs.lemmas.List.Sums.{fold-append}
use Rattle.pp_world.specs.declared.event.Side.{Side}
use Rattle.pp_world.specs.declared.event.Side.TheVariants.{Client, Origin}
use Rattle.pp_world.specs.declared.happening.Happening.{Happening}
use Rattle.pp_world.specs.declared.happening.Happening.TheVariants.{Woke, Began, Did, Unread, Shut, Dropped}
use Rattle.pp_world.specs.declared.op.DiskOp.{DiskOp}
use Rattle.pp_world.specs.Disk.{Bytes, HasDraft, Stored, View, image_after, image_of, is_name, names_in, view_after, view_of, woken}
use Rattle.pp_world.specs.Files.{Files}
use Rattle.pp_world.specs.Log.{Log, Told}
use Rattle.pp_world.specs.Wire.{by_side}
use Rattle.pp_memworld.specs.declared.folder.Folder.{Folder}
use Rattle.pp_memworld.specs.Failures.{Adds}
use Rattle.pp_memworld.specs.Folder.{Follows, Hears, IsShown, is_sound, listed_in, standing_in}
use Rattle.pp_memworld.specs.Keeping.{Keeps, KeepsFiles}
use Rattle.pp_memworld.specs.Sides.{log_if}
use Rattle.pp_memworld.specs.Slots.{AreListed, Slots, files_at, rested}

pub view_of-push : (name : Bytes) (log : Log) (h : Happening) → view_of name (log ++ h ∷ []) ≡ view_after name (view_of name log) h
unfolding view_of
view_of-push name log h = fold-append (view_after name) (woken name []) log (h ∷ [])

image_of-push : (log : Log) (h : Happening) → image_of (log ++ h ∷ []) ≡ image_after (image_of log) h
unfolding image_of
image_of-push log h = fold-append image_after (Some []) log (h ∷ [])

both_true : (a b : Bool) → a ≡ true → b ≡ true → (a && b) ≡ true
both_true true b one two = two
both_true false b one two = absurd (cc)

parts_true : (a b : Bool) → (a && b) ≡ true → (a ≡ true) × (b ≡ true)
parts_true true b is = (refl, is)
parts_true false b is = absurd (cc)

pub sound_push : (log : Log) (h : Happening) → list_all is_sound log ≡ true → is_sound h ≡ true → list_all is_sound (log ++ h ∷ []) ≡ true
sound_push [] h all one = both_true (is_sound h) true one refl
sound_push (x ∷ log) h all one = let parts = parts_true (is_sound x) (list_all is_sound log) all in both_true (is_sound x) (list_all is_sound (log ++ h ∷ [])) parts.0 (sound_push log h parts.1 one)

-- the folder hears one happening more
pub follows_push : (log : Log) (h : Happening) (old new : Folder) → Follows log old → Hears h old new → Follows (log ++ h ∷ []) new
follows_push log h old new so hears = record { shown = λ name. subst (λ (v : View). IsShown name v new) (sym (view_of-push name log h)) (hears.hears name (view_of name log) (so.shown name)) }

-- one happening more by which no file changes
pub kept_push : {told told' : Bool} {log log' : Log} {folder : Folder} (h : Happening) → Keeps told log folder → KeepsFiles h
    → (told' ≡ true → told ≡ true) → (told' ≡ true → log' ≡ log ++ h ∷ []) → Keeps told' log' folder
kept_push {log = log} {folder = folder} h kept keeps was pushed = record {
  follows = λ is. subst (λ (l : Log). Follows l folder) (sym (pushed is)) (record {
    shown = λ name. subst (λ (v : View). IsShown name v folder) (sym (view_of-push name log h)) (record {
      draft = keeps.draft name (view_of name log) ∙ ((kept.follows (was is)).shown name).draft;
      slot = keeps.slot name (view_of name log) ∙ ((kept.follows (was is)).shown name).slot;
      failed = keeps.failed name (view_of name log) ∙ ((kept.follows (was is)).shown name).failed;
    });
  });
  rests = λ is files image. kept.rests (was is) files (sym (keeps.image (image_of log)) ∙ sym (image_of-push log h) ∙ sym (ap image_of (pushed is)) ∙ image);
  sound = λ is. subst (λ (l : Log). list_all is_sound l ≡ true) (sym (pushed is)) (sound_push log h (kept.sound (was is)) keeps.sound);
}

-- a file that could not be read: its name is one on which an operation failed
pub kept_unread : {told told' : Bool} {log log' : Log} {folder folder' : Folder} (name : Bytes) → Keeps told log folder
    → (told' ≡ true → told ≡ true) → (told' ≡ true → log' ≡ log ++ Unread name ∷ []) → (told' ≡ true → Adds name folder.failed folder'.failed)
    → folder'.draft ≡ folder.draft → folder'.slots ≡ folder.slots → Keeps told' log' folder'
kept_unread {told' = told'} {log = log} {folder = folder} {folder' = folder'} name kept was pushed adds drafted slots = record {
  follows = λ is. subst (λ (l : Log). Follows l folder') (sym (pushed is)) (record {
    shown = λ other. subst (λ (v : View). IsShown other v folder') (sym (view_of-push other log (Unread name))) (record {
      draft = (known is other).draft ∙ sym drafted;
      slot = (known is other).slot ∙ ap (files_at other) (sym slots);
      failed = ap (λ (b : Bool). b || bytes_eq name other) (known is other).failed ∙ sym (adds is other);
    });
  });
  rests = λ is files image. ap (λ (s : Slots). s.entries) slots ∙ kept.rests (was is) files (sym (image_of-push log (Unread name)) ∙ sym (ap image_of (pushed is)) ∙ image);
  sound = λ is. subst (λ (l : Log). list_all is_sound l ≡ true) (sym (pushed is)) (sound_push log (Unread name) (kept.sound (was is)) refl);
}
  where
    known : told' ≡ true → (other : Bytes) → IsShown other (view_of other log) folder
    known is other = (kept.follows (was is)).shown other

pub closing_keeps : (side : Option Side) (id : ℕ) → KeepsFiles (by_side side (Shut id) (Dropped id))
closing_keeps None id = record { draft = λ name view. refl; slot = λ name view. refl; failed = λ name view. refl; image = λ image. refl; sound = refl }
closing_keeps (Some Client) id = record { draft = λ name view. refl; slot = λ name view. refl; failed = λ name view. refl; image = λ image. refl; sound = refl }
closing_keeps (Some Origin) id = record { draft = λ name view. refl; slot = λ name view. refl; failed = λ name view. refl; image = λ image. refl; sound = refl }

-- a life that begins
pub kept_woke : {log' : Log} {empty folder : Folder} (log : Log) (files : Files) → list_all is_sound log ≡ true → AreListed files → log' ≡ log ++ Woke files ∷ [] → Follows [] empty → Hears (Woke files) empty folder
    → folder.slots.entries ≡ map rested files → Keeps true log' folder
kept_woke {folder = folder} log files sound listed pushed before hears rests = record {
  follows = λ is. subst (λ (l : Log). Follows l folder) (sym pushed) (record { shown = λ name. subst (λ (v : View). IsShown name v folder) (sym (view_of-push name log (Woke files))) (hears.hears name (view_of name []) (before.shown name)) });
  rests = λ is others image. let same : Some files ≡ Some others = sym (image_of-push log (Woke files)) ∙ sym (ap image_of pushed) ∙ image in rests ∙ ap (map rested) (some_is files others same);
  sound = λ is. subst (λ (l : Log). list_all is_sound l ≡ true) (sym pushed) (sound_push log (Woke files) sound listed);
}
  where
    some_is : (a b : Files) → Some a ≡ Some b → a ≡ b
    some_is a b is = cc

-- an operation that began, and was done or failed
pub kept_op : {told begun told' : Bool} {log between log' : Log} {folder middle folder' : Folder} (op : DiskOp) (is_done : Bool) → Keeps told log folder
    → (begun ≡ true → told ≡ true) → (begun ≡ true → between ≡ log ++ Began op ∷ []) → (begun ≡ true → Hears (Began op) folder middle)
    → (told' ≡ true → begun ≡ true) → (told' ≡ true → log' ≡ between ++ Did op is_done ∷ []) → (told' ≡ true → Hears (Did op is_done) middle folder')
    → Keeps told' log' folder'
kept_op {told' = told'} {log = log} {between = between} {log' = log'} {folder = folder} {middle = middle} {folder' = folder'} op is_done kept was first hears_first then second hears_second = record {
  follows = λ is. subst (λ (l : Log). Follows l folder') (sym (second is)) (follows_push between (Did op is_done) middle folder'
      (subst (λ (l : Log). Follows l middle) (sym (first (then is))) (follows_push log (Began op) folder middle (kept.follows (was (then is))) (hears_first (then is)))) (hears_second is));
  rests = λ is files image. absurd (let none : None ≡ Some files = sym (changed is) ∙ image in cc);
  sound = λ is. subst (λ (l : Log). list_all is_sound l ≡ true) (sym (second is)) (sound_push between (Did op is_done)
      (subst (λ (l : Log). list_all is_sound l ≡ true) (sym (first (then is))) (sound_push log (Began op) (kept.sound (was (then is))) refl)) refl);
}
  where
    changed : told' ≡ true → image_of log' ≡ None
    changed is = ap image_of (second is) ∙ image_of-push between (Did op is_done) ∙ ap image_of (first (then is)) ∙ image_of-push log (Began op)

-- the listing of a folder of which nothing was changed

standing_rested : (files : Files) → standing_in (map rested files) ≡ map (λ file. file.0) files
standing_rested [] = refl
standing_rested (f ∷ files) = ap (λ (names : List Bytes). f.0 ∷ names) (standing_rested files)

pub told_names : (told : Bool) (log : Log) (folder : Folder) (names : List Bytes) → Keeps told log folder → names ≡ listed_in folder.slots.entries
    → Told (log_if told log) (λ l. (files : Files) → image_of l ≡ Some files → names ≡ names_in files)
told_names false log folder names kept is = record { at = λ l some. absurd (cc) }
told_names true log folder names kept is = record {
  at = λ l some files image.
      let same : log ≡ l = cc in
      is ∙ ap listed_in (kept.rests refl files (ap image_of same ∙ image)) ∙ ap (λ (ns : List Bytes). take 65536 (filter is_name ns)) (standing_rested files);
}

pub told_draft : (told : Bool) (log : Log) (folder : Folder) (b : Bool) → Keeps told log folder → b ≡ is_some folder.draft → Told (log_if told log) (λ l. b ≡ true → HasDraft l)
told_draft false log folder b kept is = record { at = λ l some. absurd (cc) }
told_draft true log folder b kept is = record { at = λ l some there. let same : log ≡ l = cc in subst HasDraft same (by folder.draft refl (sym is ∙ there)) }
  where
    by : (draft : Option Stored) → folder.draft ≡ draft → is_some draft ≡ true → HasDraft log
    by None none there = absurd (cc)
    by (Some f) some there = (f, ((kept.follows refl).shown []).draft ∙ some)
