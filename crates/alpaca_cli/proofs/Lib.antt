mod Answered
mod CallLaws
mod FaultLaws
mod LineLaws
mod NotRefused
mod OneEnding
mod ShelfLaws
mod StateLaws
