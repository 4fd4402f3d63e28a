-- The refusals of the code by the numbers that the rules give them.
use Rattle.std.specs.Prelude.{ℕ, List, Ok, Err, codes, Result}
use Rattle.controller.specs.declared.refusal.Refusal.{Refusal}
use Rattle.controller.specs.declared.refusal.Refusal.TheVariants.{TableSize, NoController, NoRegister, NoAccess, ByteCount, Value, NoShape, OtherDevice, NoPageReady, Buffer, PageWaits, MalformedLine}

-- each case has one number
abbrev pub number_of : Refusal → ℕ
number_of TableSize = 1
number_of NoController = 2
number_of NoRegister = 3
number_of NoAccess = 4
number_of ByteCount = 5
number_of Value = 6
number_of NoShape = 7
number_of OtherDevice = 8
number_of NoPageReady = 9
number_of Buffer = 10
number_of PageWaits = 11
number_of MalformedLine = 12

-- what a call was refused with, 0 if it was not
abbrev pub refused_as : {X : Type 0} → Result X Refusal → ℕ
refused_as (Ok x) = 0
refused_as (Err e) = number_of e

-- each refusal in words
abbrev pub says : Refusal → List ℕ
says TableSize = codes "table of 0 or more than 16 places"
says NoController = codes "no such controller"
says NoRegister = codes "no such register"
says NoAccess = codes "register not writable or not readable"
says ByteCount = codes "number of bytes"
says Value = codes "value not admitted"
says NoShape = codes "transfer of no shape"
says OtherDevice = codes "device byte of another controller"
says NoPageReady = codes "no page ready"
says Buffer = codes "buffer too short"
says PageWaits = codes "a page waits"
says MalformedLine = codes "malformed line"
