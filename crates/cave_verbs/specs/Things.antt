-- The objects that rows of verbs name.
use Rattle.cave_words.specs.declared.named.Named.TheVariants as name
use Rattle.turn_scene.specs.Rows.{Thing}
use Rattle.turn_scene.specs.Tests.{the}
use Rattle.cave_verbs.specs.declared.task.Task.{Task}

abbrev pub axe : Thing Task
axe = the name.Axe

abbrev pub batteries : Thing Task
batteries = the name.Batteries

abbrev pub bear : Thing Task
bear = the name.Bear

abbrev pub bird : Thing Task
bird = the name.Bird

abbrev pub bottle : Thing Task
bottle = the name.Bottle

abbrev pub cage : Thing Task
cage = the name.Cage

abbrev pub chain : Thing Task
chain = the name.Chain

abbrev pub clam : Thing Task
clam = the name.Clam

abbrev pub door : Thing Task
door = the name.Door

abbrev pub dragon : Thing Task
dragon = the name.Dragon

abbrev pub eggs : Thing Task
eggs = the name.Eggs

abbrev pub fissure : Thing Task
fissure = the name.Fissure

abbrev pub food : Thing Task
food = the name.Food

abbrev pub grate : Thing Task
grate = the name.Grate

abbrev pub keys : Thing Task
keys = the name.Keys

abbrev pub lamp : Thing Task
lamp = the name.Lamp

abbrev pub magazine : Thing Task
magazine = the name.Magazine

abbrev pub message : Thing Task
message = the name.Message

abbrev pub oil : Thing Task
oil = the name.Oil

abbrev pub oyster : Thing Task
oyster = the name.Oyster

abbrev pub pearl : Thing Task
pearl = the name.Pearl

abbrev pub pillow : Thing Task
pillow = the name.Pillow

abbrev pub plant : Thing Task
plant = the name.Plant

abbrev pub rod : Thing Task
rod = the name.Rod

abbrev pub second_plant : Thing Task
second_plant = the name.SecondPlant

abbrev pub second_rod : Thing Task
second_rod = the name.SecondRod

abbrev pub snake : Thing Task
snake = the name.Snake

abbrev pub tablet : Thing Task
tablet = the name.Tablet

abbrev pub trident : Thing Task
trident = the name.Trident

abbrev pub troll : Thing Task
troll = the name.Troll

abbrev pub vending : Thing Task
vending = the name.Vending

abbrev pub water : Thing Task
water = the name.Water
