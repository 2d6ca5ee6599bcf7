-- The three slices of numbers that a state stands in: where each part begins and how many numbers it takes. The code
-- has the same names in src/layout.rt.
use Rattle.std.specs.Prelude.{ℕ}

-- ---- fixed: what a routed event leaves alone
-- session, epoch, limits and first generation in front; then the slot tables of windows, views and panels
abbrev pub arena_size : ℕ
arena_size = 200

abbrev pub window_arena : ℕ
window_arena = 16

abbrev pub view_arena : ℕ
view_arena = 216

abbrev pub surface_arena : ℕ
surface_arena = 416

-- 16 views: window, metrics and layers
abbrev pub views_start : ℕ
views_start = 616

abbrev pub view_size : ℕ
view_size = 48

-- 64 panels; of a panel's 40 numbers 24 are read, the others are room
abbrev pub panels_start : ℕ
panels_start = 1384

abbrev pub panel_size : ℕ
panel_size = 40

-- the registrations: their count, then 256 rows
abbrev pub shortcuts_start : ℕ
shortcuts_start = 3944

abbrev pub shortcut_size : ℕ
shortcut_size = 4

abbrev pub fixed_size : ℕ
fixed_size = 4969

-- ---- moving: what a routed event may alter
-- the revision, the count of traces and the place of the oldest in front; then what holds the input of 16 views: focus,
-- single capture field, composition, captures
abbrev pub inputs_start : ℕ
inputs_start = 4

abbrev pub input_size : ℕ
input_size = 170

-- the ring of 32 traces
abbrev pub traces_start : ℕ
traces_start = 2724

abbrev pub trace_size : ℕ
trace_size = 96

abbrev pub moving_size : ℕ
moving_size = 5796

-- ---- routers: how many there are, their presses in all and the guarantee of each; then a block for each router
abbrev pub routers_start : ℕ
routers_start = 3

abbrev pub router_size : ℕ
router_size = 867

abbrev pub routers_size : ℕ
routers_size = 3471

-- a router's block: the time, the sequences of 32 devices, 128 presses, each table behind its count
abbrev pub sequences_start : ℕ
sequences_start = 1

abbrev pub sequences_size : ℕ
sequences_size = 97

abbrev pub presses_start : ℕ
presses_start = 98

abbrev pub presses_size : ℕ
presses_size = 769
