-- Laws of the definitions: how far a comparison looks (Looked), and what a copy into a part writes (Written).
pub mod Looked
pub mod Written
