-- A switch that is laid out, written with the targets of its jumps.
use Rattle.std.specs.Prelude.{ℕ, zero, suc, ◌+◌, List, [], ◌∷◌, ◌++◌}
use Rattle.switch_split.specs.Split as Split
use Rattle.bytecode.specs.declared.Op.TheVariants.{Unit, Jump, JumpIfTrue, Rotate, Pop, Switch}
use Rattle.lowering.specs.Code.{Code, ins, no_pos}
use Rattle.lowering.specs.Arms.{Try, End, taken, declined, idle, Entry, to_body, to_chain, to_fallback, Arm}
use Rattle.lowering.specs.Bodies.{Body, bodies_extent, fall_extent, body_at}
use Rattle.lowering.specs.SwitchLaid.{SwitchLaid}

-- the depths at a Switch and at a guard, and behind a guard or a body: the subject lies below
abbrev pub over_subject : ℕ
over_subject = 1

abbrev pub over_value : ℕ
over_value = 2

-- the default's body, or the Unit behind the bodies in its stead
unfoldable pub default_at : ℕ → SwitchLaid → ℕ
default_at zero l = l.bodies_place + bodies_extent l.bodies
default_at (suc k) l = body_at k l.bodies

-- where the switch ends. A missing default has its Unit; with a default the last body's jump is dropped
unfoldable pub end_at : ℕ → SwitchLaid → ℕ
end_at zero l = l.bodies_place + bodies_extent l.bodies + 1
end_at (suc k) l = l.bodies_place + fall_extent l.bodies

-- where a case goes that no guard takes: to the ranges, or to the default where there are none
unfoldable pub fallback_at : ℕ → List Split.Entry → SwitchLaid → ℕ
fallback_at def [] l = default_at def l
fallback_at def (e ∷ es) l = l.dispatch

-- each guard and its jump to the body
unfoldable pub tries_code : List Body → List Try → Code
tries_code bodies [] = []
tries_code bodies (t ∷ ts) =
    t.code ++ (ins (JumpIfTrue (body_at t.block bodies)) over_value t.pos ∷ tries_code bodies ts)

unfoldable pub end_code : List Body → ℕ → End → Code
end_code bodies fallback (taken k) = ins (Jump (body_at k bodies)) over_subject no_pos ∷ []
end_code bodies fallback declined = ins (Jump fallback) over_subject no_pos ∷ []
end_code bodies fallback idle = []

unfoldable pub entry_code : List Body → ℕ → Entry → Code
entry_code bodies fallback (to_body k) = []
entry_code bodies fallback (to_chain b ts e) = tries_code bodies ts ++ end_code bodies fallback e
entry_code bodies fallback to_fallback = []

unfoldable pub arms_code : List Body → ℕ → List Arm → Code
arms_code bodies fallback [] = []
arms_code bodies fallback (a ∷ as') = entry_code bodies fallback a.entry ++ arms_code bodies fallback as'

-- the second Switch and the chains of the ranges
unfoldable pub ranges_code : List Body → ℕ → List Split.Entry → List Arm → Code
ranges_code bodies fallback [] arms = []
ranges_code bodies fallback (e ∷ es) arms = ins (Switch 1) over_subject no_pos ∷ arms_code bodies fallback arms

-- bodies, each with a jump to the end
unfoldable pub bodies_code : ℕ → List Body → Code
bodies_code end [] = []
bodies_code end (x ∷ xs) = x.code ++ (ins (Jump end) over_value no_pos ∷ bodies_code end xs)

-- the same, but the last one falls through to the end
unfoldable pub bodies_fall : ℕ → List Body → Code
bodies_fall end [] = []
bodies_fall end (x ∷ []) = x.code
bodies_fall end (x ∷ y ∷ xs) = x.code ++ (ins (Jump end) over_value no_pos ∷ bodies_fall end (y ∷ xs))

-- bodies and default
unfoldable pub default_code : ℕ → ℕ → List Body → Code
default_code zero end bodies = bodies_code end bodies ++ (ins Unit over_subject no_pos ∷ [])
default_code (suc k) end bodies = bodies_fall end bodies

-- what the last part emits: Unit for a missing default, Rotate, Pop
unfoldable pub last_emits : ℕ → ℕ
last_emits zero = 3
last_emits (suc k) = 2

unfoldable pub switch_code : ℕ → SwitchLaid → Code
switch_code def l =
    let x = l.bodies in
    l.subject_code
    ++ (ins (Switch 0) over_subject no_pos ∷ [])
    ++ arms_code x (fallback_at def l.splits l) l.case_arms
    ++ ranges_code x (default_at def l) l.splits l.range_arms
    ++ default_code def (end_at def l) x
    ++ (ins (Rotate 1) over_value no_pos ∷ ins Pop over_value no_pos ∷ [])
