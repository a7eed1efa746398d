-- The messages that rules name by what they are for.
use Rattle.std.specs.Prelude.{ℕ, List, [], ◌∷◌, codes, map, slice_index_or}
use denote.Enum.Declared.{tag_of}
use Rattle.data_rows.specs.contracts.role.Role.{the_type}
use Rattle.data_rows.specs.declared.role.Role.{Role}
use Rattle.data_rows.specs.declared.role.Role.TheVariants as role

-- each with the name that bindings use, in the order of their numbers
abbrev pub ROLE_ROWS : List (Role × List ℕ)
ROLE_ROWS =
    (role.Answer, codes "answer") ∷ (role.Around, codes "around") ∷ (role.AxeBear, codes "axe-bear")
    ∷ (role.AxeDragon, codes "axe-dragon") ∷ (role.AxeFirst, codes "axe-first")
    ∷ (role.AxeKill, codes "axe-kill") ∷ (role.AxeMiss, codes "axe-miss")
    ∷ (role.AxeThrown, codes "axe-thrown") ∷ (role.AxeTroll, codes "axe-troll")
    ∷ (role.BackNo, codes "back-no") ∷ (role.BackNone, codes "back-none")
    ∷ (role.BearBars, codes "bear-bars") ∷ (role.BearChained, codes "bear-chained")
    ∷ (role.BearFed, codes "bear-fed") ∷ (role.BearFight, codes "bear-fight")
    ∷ (role.BearFollows, codes "bear-follows") ∷ (role.BearFriend, codes "bear-friend")
    ∷ (role.BirdDead, codes "bird-dead") ∷ (role.BirdDragon, codes "bird-dragon")
    ∷ (role.BirdEaten, codes "bird-eaten") ∷ (role.BirdFeed, codes "bird-feed")
    ∷ (role.BirdNo, codes "bird-no") ∷ (role.BirdRod, codes "bird-rod")
    ∷ (role.BirdSnake, codes "bird-snake") ∷ (role.Blocked, codes "blocked")
    ∷ (role.Booty, codes "booty") ∷ (role.BottleFull, codes "bottle-full")
    ∷ (role.BridgeFalls, codes "bridge-falls") ∷ (role.Brief, codes "brief")
    ∷ (role.CantPour, codes "cant-pour") ∷ (role.CaveIn, codes "cave-in")
    ∷ (role.CaveOut, codes "cave-out") ∷ (role.ChainFree, codes "chain-free")
    ∷ (role.ChainLock, codes "chain-lock") ∷ (role.ChainLocked, codes "chain-locked")
    ∷ (role.ChestHid, codes "chest-hid") ∷ (role.ClamHeld, codes "clam-held")
    ∷ (role.ClamTool, codes "clam-tool") ∷ (role.Closing, codes "closing")
    ∷ (role.ClosingExit, codes "closing-exit") ∷ (role.Crawl, codes "crawl")
    ∷ (role.Dark, codes "dark") ∷ (role.DeadAlready, codes "dead-already")
    ∷ (role.Die1, codes "die1") ∷ (role.Die2, codes "die2") ∷ (role.Die3, codes "die3")
    ∷ (role.Disturbed, codes "disturbed") ∷ (role.DoorOiled, codes "door-oiled")
    ∷ (role.DoorWet, codes "door-wet") ∷ (role.Drunk, codes "drunk")
    ∷ (role.DwarfFeed, codes "dwarf-feed") ∷ (role.DwarfOne, codes "dwarf-one")
    ∷ (role.Eaten, codes "eaten") ∷ (role.Empty, codes "empty") ∷ (role.Enough, codes "enough")
    ∷ (role.Facing, codes "facing") ∷ (role.FeedWhat, codes "feed-what")
    ∷ (role.FeetWet, codes "feet-wet") ∷ (role.FilledOil, codes "filled-oil")
    ∷ (role.FilledWater, codes "filled-water") ∷ (role.FooOrder, codes "foo-order")
    ∷ (role.ForcedLimit, codes "forced-limit") ∷ (role.GiveUp, codes "give-up")
    ∷ (role.HeldIt, codes "held-it") ∷ (role.HereIt, codes "here-it")
    ∷ (role.HintTake, codes "hint-take") ∷ (role.HitMany, codes "hit-many")
    ∷ (role.HitOne, codes "hit-one") ∷ (role.Holding, codes "holding")
    ∷ (role.Hollow, codes "hollow") ∷ (role.Immovable, codes "immovable")
    ∷ (role.Inout, codes "inout") ∷ (role.Instructions, codes "instructions")
    ∷ (role.KeysWhat, codes "keys-what") ∷ (role.KilledClosing, codes "killed-closing")
    ∷ (role.Klutz, codes "klutz") ∷ (role.Knife, codes "knife") ∷ (role.KnifeOne, codes "knife-one")
    ∷ (role.LampDead, codes "lamp-dead") ∷ (role.LampLow, codes "lamp-low")
    ∷ (role.LampLowFind, codes "lamp-low-find") ∷ (role.LampLowUsed, codes "lamp-low-used")
    ∷ (role.LampOff, codes "lamp-off") ∷ (role.LampOn, codes "lamp-on")
    ∷ (role.LockWhat, codes "lock-what") ∷ (role.Locked, codes "locked")
    ∷ (role.Magic, codes "magic") ∷ (role.MirrorBreak, codes "mirror-break")
    ∷ (role.MirrorNo, codes "mirror-no") ∷ (role.MissAll, codes "miss-all")
    ∷ (role.MissOne, codes "miss-one") ∷ (role.NoAppetite, codes "no-appetite")
    ∷ (role.NoBottle, codes "no-bottle") ∷ (role.NoCage, codes "no-cage")
    ∷ (role.NoDir, codes "no-dir") ∷ (role.NoKeys, codes "no-keys") ∷ (role.NoLake, codes "no-lake")
    ∷ (role.NoLatch, codes "no-latch") ∷ (role.NoLock, codes "no-lock")
    ∷ (role.NoLockHere, codes "no-lock-here") ∷ (role.NoMotion, codes "no-motion")
    ∷ (role.NoWay, codes "no-way") ∷ (role.NoWord, codes "no-word")
    ∷ (role.NoWord2, codes "no-word-2") ∷ (role.NoWord3, codes "no-word-3")
    ∷ (role.NoneToKill, codes "none-to-kill") ∷ (role.NotHeld, codes "not-held")
    ∷ (role.NotHungry, codes "not-hungry") ∷ (role.OffScale, codes "off-scale")
    ∷ (role.Ok, codes "ok") ∷ (role.OysterAsk, codes "oyster-ask")
    ∷ (role.OysterHeld, codes "oyster-held") ∷ (role.OysterHint, codes "oyster-hint")
    ∷ (role.OysterOpen, codes "oyster-open") ∷ (role.OysterTool, codes "oyster-tool")
    ∷ (role.Pearl, codes "pearl") ∷ (role.Pit, codes "pit") ∷ (role.PlantOil, codes "plant-oil")
    ∷ (role.PlantRoots, codes "plant-roots") ∷ (role.PourGround, codes "pour-ground")
    ∷ (role.Quit, codes "quit") ∷ (role.ReadMagazine, codes "read-magazine")
    ∷ (role.ReadMessage, codes "read-message") ∷ (role.ReadOyster, codes "read-oyster")
    ∷ (role.ReadTablet, codes "read-tablet") ∷ (role.Reborn1, codes "reborn1")
    ∷ (role.Reborn2, codes "reborn2") ∷ (role.Reborn3, codes "reborn3")
    ∷ (role.Replaced, codes "replaced") ∷ (role.Repository, codes "repository")
    ∷ (role.Ridiculous, codes "ridiculous") ∷ (role.RubOdd, codes "rub-odd")
    ∷ (role.Rustle, codes "rustle") ∷ (role.Rusty, codes "rusty")
    ∷ (role.ScoreQuit, codes "score-quit") ∷ (role.Shell, codes "shell")
    ∷ (role.SnakeNo, codes "snake-no") ∷ (role.Success, codes "success")
    ∷ (role.TooMuch, codes "too-much") ∷ (role.TooTight, codes "too-tight")
    ∷ (role.TopClass, codes "top-class") ∷ (role.TrollFeed, codes "troll-feed")
    ∷ (role.TrollFlees, codes "troll-flees") ∷ (role.TrollNo, codes "troll-no")
    ∷ (role.TrollPaid, codes "troll-paid") ∷ (role.Unlocked, codes "unlocked")
    ∷ (role.VaseBreak, codes "vase-break") ∷ (role.VaseDry, codes "vase-dry")
    ∷ (role.VaseSmash, codes "vase-smash") ∷ (role.WakeDwarf, codes "wake-dwarf")
    ∷ (role.WasLocked, codes "was-locked") ∷ (role.WasUnlocked, codes "was-unlocked")
    ∷ (role.Welcome, codes "welcome") ∷ (role.Where, codes "where")
    ∷ (role.WithWhat, codes "with-what") ∷ (role.WrongWay, codes "wrong-way") ∷ []

abbrev pub each_role : List Role
each_role = map (λ row. row.0) ROLE_ROWS

abbrev pub ROLE_NAMES : List (List ℕ)
ROLE_NAMES = map (λ row. row.1) ROLE_ROWS

-- its place among all, from 0, which is that of its variant
abbrev pub role_number : Role → ℕ
role_number r = tag_of the_type r

abbrev pub role_name : Role → List ℕ
role_name r = slice_index_or ROLE_NAMES (role_number r) []
